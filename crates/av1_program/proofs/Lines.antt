-- The lines of tiles, one after another.
use Rattle.std.proofs.Common.{◌≡◌, ℕ, ◌+◌, ◌<◌, List, [], ◌∷◌, ◌++◌, length, take, get_or, sym, ap, ◌∙◌, append_assoc, arith, length-take}
use Rattle.std.specs.List.{enumerate_from, flat_map}
use Rattle.std.proofs.lemmas.List.{append-nil, take_more}
use Rattle.std.proofs.lemmas.List.Concat.{flat_map-append}
use Rattle.av1_tile.specs.declared.report.TileReport.{TileReport}
use Rattle.av1_program.specs.Text.{tile_line, tile_lines}

-- one more is counted from the length on
pub enumerate_more : {X : Type 0} (n : ℕ) (xs : List X) (x : X) → enumerate_from n (xs ++ x ∷ []) ≡ enumerate_from n xs ++ (n + length xs, x) ∷ []
enumerate_more n [] x = ap (λ m. (m, x) ∷ []) (omega arith)
enumerate_more n (y ∷ xs) x = ap (λ rest. (n, y) ∷ rest) (enumerate_more (n + 1) xs x ∙ ap (λ m. enumerate_from (n + 1) xs ++ (m, x) ∷ []) (omega arith))

tile_lines_more : (tiles : List TileReport) (i : ℕ) (tile : TileReport) → i < length tiles → tile_lines (take (i + 1) tiles) ≡ tile_lines (take i tiles) ++ tile_line i (get_or tiles i tile)
tile_lines_more tiles i tile lt =
    let line : ℕ × TileReport → List ℕ = λ t. tile_line t.0 t.1 in
    let before = take i tiles in
    let here = get_or tiles i tile in
    let number : 0 + length before ≡ i = omega (arith, length-take i tiles) in
    ap tile_lines (take_more tiles i tile lt)
    ∙ ap (flat_map line) (enumerate_more 0 before here)
    ∙ flat_map-append line (enumerate_from 0 before) ((0 + length before, here) ∷ [])
    ∙ ap (λ text. tile_lines before ++ text) (append-nil (line (0 + length before, here)) ∙ ap (λ n. tile_line n here) number)

-- the text so far has one more line
pub one_more_line : (start old new : List ℕ) (tiles : List TileReport) (i : ℕ) (tile : TileReport) → i < length tiles → old ≡ start ++ tile_lines (take i tiles)
    → new ≡ old ++ tile_line i (get_or tiles i tile) → new ≡ start ++ tile_lines (take (i + 1) tiles)
one_more_line start old new tiles i tile lt so_far more =
    more
    ∙ ap (λ text. text ++ tile_line i (get_or tiles i tile)) so_far
    ∙ append_assoc start (tile_lines (take i tiles)) (tile_line i (get_or tiles i tile))
    ∙ ap (λ text. start ++ text) (sym (tile_lines_more tiles i tile lt))
