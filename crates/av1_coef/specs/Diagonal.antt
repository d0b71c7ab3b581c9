-- The diagonal order of the positions of a block: by rising column and row together, then by rising column.
use Rattle.std.specs.Prelude.{◌≡◌, ◌<◌, ℕ, zero, suc, ◌+◌, ◌-◌, ◌*◌, ◌/◌, ◌%◌, List, [], ◌∷◌, ◌++◌, map, length, slice_index_or}
use Rattle.std.specs.Prelude.{true, ◌&&◌, nat_le, nat_lt, if◌then◌else◌}
use Rattle.av1_geometry.specs.declared.tx_size.TxSize.{TxSize}
use Rattle.av1_coef.specs.declared.scans.TheConstants.{TX_SIZES}
use Rattle.av1_coef.specs.Contexts.{coded_width, coded_height}
use Rattle.av1_coef.specs.Scans.{is_in, is_permutation}

-- where a position stands in the order, as columns are below 64
abbrev pub diagonal_key : ℕ → ℕ → ℕ
diagonal_key h p = (p / h + p % h) * 64 + p / h

-- each position is before all that come later
abbrev pub Rises : ℕ → List ℕ → Type 0
Rises h [] = Unit {0}
Rises h (p ∷ ps) = ((q : ℕ) → is_in ps q ≡ true → diagonal_key h p < diagonal_key h q) × Rises h ps

-- the position that a block of w columns and h rows has at a key, if it has one
abbrev pub at_key : ℕ → ℕ → ℕ → List ℕ
at_key w h n =
    let c = n % 64 in
    let line = n / 64 in
    if nat_lt c w && (nat_le c line && nat_lt (line - c) h) then (c * h + (line - c)) ∷ [] else []

-- those below a key
abbrev pub by_keys : ℕ → ℕ → ℕ → List ℕ
by_keys w h zero = []
by_keys w h (suc n) = by_keys w h n ++ at_key w h n

-- all of them
abbrev pub diagonal_scan : ℕ → ℕ → List ℕ
diagonal_scan w h = by_keys w h (64 * (w + h - 1))

-- of each size, the same for each class
abbrev pub diagonal_of : TxSize → List (List ℕ)
diagonal_of size = let scan = diagonal_scan (coded_width size) (coded_height size) in scan ∷ scan ∷ scan ∷ []

abbrev pub diagonal_scans : List (List (List ℕ))
diagonal_scans = map diagonal_of TX_SIZES

-- the positions of a block of w columns and h rows in this order
pub record IsDiagonal (w h : ℕ) (scan : List ℕ) : Type 0 where
  pub whole : is_permutation (w * h) scan ≡ true
  pub rises : Rises h scan
  pub is : scan ≡ diagonal_scan w h

-- a scan of each class, all in this order
pub record AreDiagonal (size : TxSize) (scans : List (List ℕ)) : Type 0 where
  pub three : length scans ≡ 3
  pub each : (k : ℕ) → k < 3 → IsDiagonal (coded_width size) (coded_height size) (slice_index_or scans k [])
