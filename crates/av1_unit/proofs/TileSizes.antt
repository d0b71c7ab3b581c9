-- How long a tile group is, and how many bytes hold the sizes in it.
use mir.Val.{bool_byte}
use Rattle.std.proofs.Common.{◌≡◌, ℕ, suc, zero, ◌+◌, ◌-◌, ◌*◌, ◌^◌, ◌<◌, ◌≤◌, ◌++◌, List, [], ◌∷◌, Bool, true, false, map, max, length, take, get_or, nat_lt, refl, sym, ◌∙◌, ap, arith, inl, inr, length-append, if◌then◌else◌}
use Rattle.std.specs.Prelude.{sum}
use Rattle.std.specs.Int.{bytes_low_first}
use Rattle.std.specs.List.{flat_map, sum_by}
use Rattle.std.proofs.Math.Seq.{take-suc, take-length}
use Rattle.std.proofs.lemmas.Bool.{cases_lt}
use Rattle.std.proofs.lemmas.Bool.Decides.{nat_tests}
use Rattle.std.proofs.lemmas.List.{get_or-map, get_or-take, length-map, length-take-le, map-append, take-map, take_more}
use Rattle.std.proofs.lemmas.List.Concat.{length-flat_map}
use Rattle.std.proofs.lemmas.List.Sums.{sum-map, sum_by-append, sum_by-cons, sum_by-take-le}
use Rattle.av1_unit.specs.Framing.{but_last, bytes_for, frame_header, frame_payload, greatest, lengths_of, size_bytes, size_of, sized, tile_group}
use Rattle.av1_unit.specs.Lengths.{bytes_told, count_of, HasLengths, SizesFit}
use Rattle.av1_tile.specs.declared.report.TileReport.{TileReport}
use Rattle.av1_step.specs.Given.{Given}

pub as_count : (there : Bool) → bool_byte there ≡ count_of there
as_count true = refl
as_count false = refl

pub length-low_first : (i k n : ℕ) → length (bytes_low_first i k n) ≡ k
length-low_first i zero n = refl
length-low_first i (suc k) n = ap suc (length-low_first (suc i) k n)

-- a zero byte in front of several tiles
abbrev pub flag_of : Bool → List ℕ
flag_of several = if several then 0 ∷ [] else []

length-flag : (several : Bool) → length (flag_of several) ≡ count_of several
length-flag true = refl
length-flag false = refl

length-sized : (width : ℕ) (tiles : List (List ℕ)) → sum_by (λ tile. length (sized width tile)) tiles ≡ length tiles * width + sum_by (λ tile. length tile) tiles
length-sized width [] = omega arith
length-sized width (tile ∷ tiles) =
    omega (arith, sum_by-cons (λ (t : List ℕ). length (sized width t)) tile tiles, sum_by-cons (λ (t : List ℕ). length t) tile tiles, length-append (bytes_low_first 0 width (size_of (length tile))) tile, length-low_first 0 width (size_of (length tile)), length-sized width tiles)

-- the last tile and those before it
last_too : (tiles : List (List ℕ)) → sum_by (λ tile. length tile) (but_last tiles) + length (get_or tiles (length tiles - 1) []) ≡ sum_by (λ tile. length tile) tiles
last_too [] = refl
last_too (tile ∷ tiles) =
    let n = length tiles in
    let all = tile ∷ tiles in
    let e : length all - 1 ≡ n = omega arith in
    let whole : take (suc n) all ≡ all = take-length all in
    let one : sum_by (λ (t : List ℕ). length t) (take n all) + length (get_or all n []) ≡ sum_by (λ (t : List ℕ). length t) (take n all ++ get_or all n [] ∷ []) =
    omega (arith, sum_by-append (λ (t : List ℕ). length t) (take n all) (get_or all n [] ∷ [])) in
    ap (λ k. sum_by (λ (t : List ℕ). length t) (take k all) + length (get_or all k [])) e
    ∙ one
    ∙ ap (λ (l : List (List ℕ)). sum_by (λ (t : List ℕ). length t) l) (sym (take-suc all n [] (omega arith)) ∙ whole)

-- a tile group has the tiles, a size of so many bytes for each but the last, and a byte in front of several
pub length-tile_group : (width : ℕ) (tiles : List (List ℕ)) → length (tile_group width tiles) ≡ count_of (nat_lt 1 (length tiles)) + (length tiles - 1) * width + sum (lengths_of tiles)
unfolding tile_group
length-tile_group width tiles =
    let flag = flag_of (nat_lt 1 (length tiles)) in
    let front = flat_map (sized width) (but_last tiles) in
    let last = get_or tiles (length tiles - 1) [] in
    let count : length (but_last tiles) ≡ length tiles - 1 = length-take-le (length tiles - 1) tiles (omega arith) in
    let sizes : length front ≡ (length tiles - 1) * width + sum_by (λ (t : List ℕ). length t) (but_last tiles) =
    length-flat_map (sized width) (but_last tiles) ∙ length-sized width (but_last tiles) ∙ ap (λ n. n * width + sum_by (λ (t : List ℕ). length t) (but_last tiles)) count in
    omega (arith, length-append (flag ++ front) last, length-append flag front, length-flag (nat_lt 1 (length tiles)), sizes, last_too tiles, sum-map (λ (t : List ℕ). length t) tiles)

pub length-frame_payload : (g : Given) (tiles : List (List ℕ)) → length (frame_payload g tiles) ≡ length (frame_header g (size_bytes (lengths_of tiles))) + length (tile_group (size_bytes (lengths_of tiles)) tiles)
unfolding frame_payload
length-frame_payload g tiles = length-append (frame_header g (size_bytes (lengths_of tiles))) (tile_group (size_bytes (lengths_of tiles)) tiles)

-- so many bytes hold a number, and they are 1 to 4
bytes_hold : (n : ℕ) → n < 2 ^ 32 → n < 2 ^ (8 * bytes_for n)
bytes_hold n few = elim (cases_lt n (2 ^ 8)) [
  | inl a ↦ let e : nat_lt n (2 ^ 8) ≡ true = grind (arith, nat_tests) in rw e a
  | inr b ↦
      let e : nat_lt n (2 ^ 8) ≡ false = grind (arith, nat_tests) in
      elim (cases_lt n (2 ^ 16)) [
        | inl c ↦ let f : nat_lt n (2 ^ 16) ≡ true = grind (arith, nat_tests) in rw (e, f) c
        | inr d ↦
            let f : nat_lt n (2 ^ 16) ≡ false = grind (arith, nat_tests) in
            elim (cases_lt n (2 ^ 24)) [
              | inl i ↦ let h : nat_lt n (2 ^ 24) ≡ true = grind (arith, nat_tests) in rw (e, f, h) i
              | inr j ↦ let h : nat_lt n (2 ^ 24) ≡ false = grind (arith, nat_tests) in rw (e, f, h) few
            ]
      ]
]

one_of : (a b c : Bool) → (1 ≤ (if a then 1 else if b then 2 else if c then 3 else 4)) × ((if a then 1 else if b then 2 else if c then 3 else 4) ≤ 4)
one_of true b c = (omega arith, omega arith)
one_of false true c = (omega arith, omega arith)
one_of false false true = (omega arith, omega arith)
one_of false false false = (omega arith, omega arith)

pub one_to_four : (n : ℕ) → (1 ≤ bytes_for n) × (bytes_for n ≤ 4)
one_to_four n = one_of (nat_lt n (2 ^ 8)) (nat_lt n (2 ^ 16)) (nat_lt n (2 ^ 24))

-- none of the numbers is above the greatest
at_most_greatest : (ns : List ℕ) (k : ℕ) → get_or ns k 0 ≤ greatest ns
at_most_greatest [] k = omega arith
at_most_greatest (n ∷ ns) zero = omega arith
at_most_greatest (n ∷ ns) (suc k) = omega (arith, at_most_greatest ns k)

greatest_in_sum : (ns : List ℕ) → greatest (map size_of ns) ≤ sum ns
greatest_in_sum [] = omega arith
greatest_in_sum (n ∷ ns) = omega (arith, greatest_in_sum ns, sum_by-cons (λ k. k) n ns)

-- where the tiles are short together, 1 to 4 bytes hold the size of each
pub sizes_fit : (width : ℕ) (tiles : List (List ℕ)) → width ≡ size_bytes (lengths_of tiles) → sum (lengths_of tiles) < 2 ^ 32 → SizesFit width tiles
unfolding size_bytes
sizes_fit width tiles is few =
    let lens = lengths_of tiles in
    let said = map size_of (but_last lens) in
    let top : greatest said ≤ sum (but_last lens) = greatest_in_sum (but_last lens) in
    let part : sum (but_last lens) ≤ sum lens = sum_by-take-le (λ k. k) lens (length lens - 1) in
    let held : greatest said < 2 ^ (8 * bytes_for (greatest said)) = bytes_hold (greatest said) (omega (arith, top, part, few)) in
    let range = one_to_four (greatest said) in
    record {
      some = omega (arith, is, range.0);
      few = omega (arith, is, range.1);
      each = λ k before.
          let in_all : k < length tiles = omega (arith, before) in
          let lens_count : length lens ≡ length tiles = length-map tiles (λ (t : List ℕ). length t) in
          let in_lens : k < length lens - 1 = omega (arith, before, lens_count) in
          let count : length (but_last lens) ≡ length lens - 1 = length-take-le (length lens - 1) lens (omega arith) in
          let e : get_or said k 0 ≡ size_of (length (get_or tiles k [])) =
          get_or-map size_of (but_last lens) k 0 0 (omega (arith, count, in_lens)) ∙ ap size_of (get_or-take (length lens - 1) lens k 0 in_lens ∙ get_or-map (λ (t : List ℕ). length t) tiles k [] 0 in_all) in
          let w : 2 ^ (8 * bytes_for (greatest said)) ≡ 2 ^ (8 * width) = ap (λ n. 2 ^ (8 * n)) (sym is) in
          omega (arith, e, at_most_greatest said k, held, w);
    }

greatest-append : (ns : List ℕ) (n : ℕ) → greatest (ns ++ n ∷ []) ≡ max (greatest ns) n
greatest-append [] n = omega arith
greatest-append (m ∷ ns) n = omega (arith, greatest-append ns n)

-- the greatest size of one tile more
pub greatest_more : (tiles : List TileReport) (i : ℕ) (t : TileReport) → i < length tiles
    → greatest (map size_of (map bytes_told (take (i + 1) tiles))) ≡ max (greatest (map size_of (map bytes_told (take i tiles)))) (size_of (bytes_told (get_or tiles i t)))
greatest_more tiles i t within =
    ap (λ l. greatest (map size_of (map bytes_told l))) (take_more tiles i t within) ∙ ap (λ l. greatest (map size_of l)) (map-append bytes_told (take i tiles) (get_or tiles i t ∷ []))
    ∙ ap greatest (map-append size_of (map bytes_told (take i tiles)) (bytes_told (get_or tiles i t) ∷ [])) ∙ greatest-append (map size_of (map bytes_told (take i tiles))) (size_of (bytes_told (get_or tiles i t)))

-- the sizes of tiles by what is told of them
pub size_bytes_told : (tiles : List TileReport) (n : ℕ) → n ≡ length tiles - 1 → bytes_for (greatest (map size_of (map bytes_told (take n tiles)))) ≡ size_bytes (map bytes_told tiles)
unfolding size_bytes
size_bytes_told tiles n is =
    let e : n ≡ length (map bytes_told tiles) - 1 = omega (arith, is, length-map tiles bytes_told) in
    ap (λ l. bytes_for (greatest (map size_of l))) (sym (take-map bytes_told n tiles) ∙ ap (λ k. take k (map bytes_told tiles)) e)

-- a tile group by what is told of its tiles
pub group_told : (width : ℕ) (tiles : List (List ℕ)) (told : List TileReport) → HasLengths tiles told
    → length (tile_group width tiles) ≡ count_of (nat_lt 1 (length told)) + (length told - 1) * width + sum (map bytes_told told)
group_told width tiles told is =
    let n : length tiles ≡ length told = sym (length-map tiles (λ (t : List ℕ). length t)) ∙ ap (λ l. length l) is ∙ length-map told bytes_told in
    length-tile_group width tiles ∙ ap (λ k. count_of (nat_lt 1 k) + (k - 1) * width + sum (lengths_of tiles)) n ∙ ap (λ l. count_of (nat_lt 1 (length told)) + (length told - 1) * width + sum l) is

-- the frame by what is told of its tiles
pub frame_told : (g : Given) (tiles : List (List ℕ)) (told : List TileReport) (width : ℕ) → width ≡ size_bytes (map bytes_told told) → HasLengths tiles told
    → length (frame_payload g tiles) ≡ length (frame_header g width) + length (tile_group width tiles)
frame_told g tiles told width is has =
    let w : size_bytes (lengths_of tiles) ≡ width = ap size_bytes has ∙ sym is in
    length-frame_payload g tiles ∙ ap (λ k. length (frame_header g k) + length (tile_group k tiles)) w

pub short_tiles : (g : Given) (tiles : List (List ℕ)) → length (frame_payload g tiles) < 2 ^ 32 → sum (lengths_of tiles) < 2 ^ 32
short_tiles g tiles few = omega (arith, few, length-frame_payload g tiles, length-tile_group (size_bytes (lengths_of tiles)) tiles)

-- several tiles are more than one
pub several : (n : ℕ) → nat_lt 0 (n - 1) ≡ nat_lt 1 n
several n = elim (cases_lt 1 n) [
  | inl a ↦
      let b : nat_lt 1 n ≡ true = grind (arith, nat_tests) in
      let more : 0 < n - 1 = omega arith in
      let c : nat_lt 0 (n - 1) ≡ true = grind (arith, nat_tests) in
      c ∙ sym b
  | inr a ↦
      let b : nat_lt 1 n ≡ false = grind (arith, nat_tests) in
      let no_more : n - 1 ≡ 0 = omega arith in
      ap (nat_lt 0) no_more ∙ sym b
]

pub width_fits : (width : ℕ) (tiles : List (List ℕ)) → width ≡ size_bytes (lengths_of tiles) → (1 ≤ width) × (width ≤ 4)
unfolding size_bytes
width_fits width tiles is = let range = one_to_four (greatest (map size_of (but_last (lengths_of tiles)))) in (omega (arith, is, range.0), omega (arith, is, range.1))
