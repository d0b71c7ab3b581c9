-- The tiles of a tile group are read back by their sizes.
use Rattle.std.proofs.Common.{◌≡◌, ℕ, suc, zero, ◌+◌, ◌-◌, ◌*◌, ◌^◌, ◌<◌, ◌≤◌, ◌++◌, List, [], ◌∷◌, Bool, true, false, length, take, drop, get_or, nat_lt, refl, sym, ◌∙◌, ap, arith, append_assoc, if◌then◌else◌}
use Rattle.std.specs.Int.{bytes_low_first}
use Rattle.std.specs.List.{flat_map}
use Rattle.std.proofs.Math.Seq.{drop-append_seam, take-append_seam}
use Rattle.av1_unit.specs.Apart.{low_first, take_tile, take_tiles, tiles_in}
use Rattle.av1_unit.specs.Framing.{but_last, size_of, sized, tile_group}
use Rattle.av1_unit.specs.Lengths.{SizesFit}
use Rattle.av1_unit.proofs.TileSizes.{flag_of, length-low_first}

-- a number in 1 to 4 bytes is read back
low_first-read : (width n : ℕ) → 1 ≤ width → width ≤ 4 → n < 2 ^ (8 * width) → low_first (bytes_low_first 0 width n) ≡ n
low_first-read zero n some few fits = absurd (omega arith)
low_first-read (suc zero) n some few fits = omega (arith, fits)
low_first-read (suc (suc zero)) n some few fits = omega (arith, fits)
low_first-read (suc (suc (suc zero))) n some few fits = omega (arith, fits)
low_first-read (suc (suc (suc (suc zero)))) n some few fits = omega (arith, fits)
low_first-read (suc (suc (suc (suc (suc w))))) n some few fits = absurd (omega arith)

-- tiles one after another
grouped : ℕ → List (List ℕ) → List ℕ
grouped width [] = []
grouped width (tile ∷ []) = tile
grouped width (tile ∷ next ∷ tiles) = sized width tile ++ grouped width (next ∷ tiles)

grouped_is : (width : ℕ) (tiles : List (List ℕ)) → flat_map (sized width) (but_last tiles) ++ get_or tiles (length tiles - 1) [] ≡ grouped width tiles
unfolding grouped
grouped_is width [] = refl
grouped_is width (tile ∷ []) = refl
grouped_is width (tile ∷ next ∷ tiles) =
    let all = tile ∷ next ∷ tiles in
    let n = length tiles in
    let long : length all - 1 ≡ suc n = omega arith in
    let short : n ≡ length (next ∷ tiles) - 1 = omega arith in
    ap (λ k. flat_map (sized width) (take k all) ++ get_or all k []) long
    ∙ append_assoc (sized width tile) (flat_map (sized width) (take n (next ∷ tiles))) (get_or (next ∷ tiles) n [])
    ∙ ap (λ k. sized width tile ++ (flat_map (sized width) (take k (next ∷ tiles)) ++ get_or (next ∷ tiles) k [])) short
    ∙ ap (λ (l : List ℕ). sized width tile ++ l) (grouped_is width (next ∷ tiles))

-- the size of each tile but the last fits, and no tile is empty
abbrev AllFit : ℕ → List (List ℕ) → Type 0
AllFit width [] = Unit {0}
AllFit width (tile ∷ []) = Unit {0}
AllFit width (tile ∷ next ∷ tiles) = (1 ≤ length tile) × (size_of (length tile) < 2 ^ (8 * width)) × AllFit width (next ∷ tiles)

one_read : (width : ℕ) (tile rest : List ℕ) → 1 ≤ width → width ≤ 4 → 1 ≤ length tile → size_of (length tile) < 2 ^ (8 * width) → take_tile width (sized width tile ++ rest) ≡ (tile, rest)
one_read width tile rest some few long fits =
    let size = bytes_low_first 0 width (size_of (length tile)) in
    let count : length size ≡ width = length-low_first 0 width (size_of (length tile)) in
    let all : sized width tile ++ rest ≡ size ++ (tile ++ rest) = append_assoc size tile rest in
    let front : take width (sized width tile ++ rest) ≡ size = ap (take width) all ∙ ap (λ k. take k (size ++ (tile ++ rest))) (sym count) ∙ take-append_seam size (tile ++ rest) in
    let back : drop width (sized width tile ++ rest) ≡ tile ++ rest = ap (drop width) all ∙ ap (λ k. drop k (size ++ (tile ++ rest))) (sym count) ∙ drop-append_seam size (tile ++ rest) in
    let len : low_first size + 1 ≡ length tile = omega (arith, low_first-read width (size_of (length tile)) some few fits, long) in
    (λ i. (take (low_first (front i) + 1) (back i), drop (low_first (front i) + 1) (back i)))
    ∙ (λ i. (take (len i) (tile ++ rest), drop (len i) (tile ++ rest)))
    ∙ (λ i. (take-append_seam tile rest i, drop-append_seam tile rest i))

all_read : (width : ℕ) (tiles : List (List ℕ)) → 1 ≤ width → width ≤ 4 → AllFit width tiles → take_tiles width (length tiles) (grouped width tiles) ≡ tiles
unfolding grouped
all_read width [] some few fit = refl
all_read width (tile ∷ []) some few fit = refl
all_read width (tile ∷ next ∷ tiles) some few (long, fits, others) =
    ap (λ r. r.0 ∷ take_tiles width (suc (length tiles)) r.1) (one_read width tile (grouped width (next ∷ tiles)) some few long fits)
    ∙ ap (λ ts. tile ∷ ts) (all_read width (next ∷ tiles) some few others)

-- no tile is empty
abbrev pub NoneEmpty : List (List ℕ) → Type 0
NoneEmpty [] = Unit {0}
NoneEmpty (tile ∷ tiles) = (1 ≤ length tile) × NoneEmpty tiles

all_fit : (width : ℕ) (tiles : List (List ℕ)) → NoneEmpty tiles → ((k : ℕ) → k < length tiles - 1 → size_of (length (get_or tiles k [])) < 2 ^ (8 * width)) → AllFit width tiles
all_fit width [] long each = tt
all_fit width (tile ∷ []) long each = tt
all_fit width (tile ∷ next ∷ tiles) long each = (long.0, each 0 (omega arith), all_fit width (next ∷ tiles) long.1 (λ k before. each (suc k) (omega (arith, before))))

behind : (several : Bool) (rest : List ℕ) → drop (if several then 1 else 0) (flag_of several ++ rest) ≡ rest
behind true rest = refl
behind false rest = refl

-- all tiles of a group are read back
pub group_read : (width : ℕ) (tiles : List (List ℕ)) → NoneEmpty tiles → SizesFit width tiles → tiles_in width (length tiles) (tile_group width tiles) ≡ tiles
unfolding tile_group
group_read width tiles long fit =
    let several = nat_lt 1 (length tiles) in
    let front = flat_map (sized width) (but_last tiles) in
    let last = get_or tiles (length tiles - 1) [] in
    ap (λ (l : List ℕ). take_tiles width (length tiles) (drop (if several then 1 else 0) l)) (append_assoc (flag_of several) front last ∙ ap (λ (l : List ℕ). flag_of several ++ l) (grouped_is width tiles))
    ∙ ap (take_tiles width (length tiles)) (behind several (grouped width tiles)) ∙ all_read width tiles fit.some fit.few (all_fit width tiles long fit.each)
