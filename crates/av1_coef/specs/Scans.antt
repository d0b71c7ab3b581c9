-- Orders of the coefficients of a transform, and their rules. Position c * h + r is that of column c and row r, in columns of h rows.
use Rattle.std.specs.Prelude.{◌≡◌, ℕ, zero, suc, ◌+◌, ◌*◌, ◌/◌, ◌%◌, ◌<◌, List, [], ◌∷◌, slice_index, slice_index_or, length, None}
use Rattle.std.specs.Prelude.{Bool, true, false, ◌&&◌, ◌||◌, not, nat_eq, nat_lt, if◌then◌else◌}
use Rattle.std.specs.List.{list_all}
use Rattle.av1_geometry.specs.declared.tx_size.TxSize.{TxSize}
use Rattle.av1_coef.specs.declared.scans.TheConstants.{TX_SIZES}
use Rattle.av1_geometry.specs.declared.tx_type.TxClass.{TxClass}
use Rattle.av1_geometry.specs.declared.tx_type.TxClass.TheVariants.{TX_CLASS_2D, TX_CLASS_HORIZ, TX_CLASS_VERT}
use Rattle.av1_geometry.specs.TxSize.{tx_number}
use Rattle.av1_geometry.specs.Rules.{Check, rule, first_broken}
use Rattle.av1_coef.specs.Contexts.{Step, base_steps, coded_width, coded_height, coded_area}

abbrev pub is_in : List ℕ → ℕ → Bool
is_in [] p = false
is_in (q ∷ qs) p = nat_eq q p || is_in qs p

-- each position below n is there
abbrev pub all_there : ℕ → List ℕ → Bool
all_there zero scan = true
all_there (suc n) scan = is_in scan n && all_there n scan

-- no other position is there, and none is there twice
abbrev pub each_once : ℕ → List ℕ → Bool
each_once area [] = true
each_once area (p ∷ ps) = nat_lt p area && not (is_in ps p) && each_once area ps

-- the positions below an area, each once
abbrev pub is_permutation : ℕ → List ℕ → Bool
is_permutation area scan = each_once area scan && all_there area scan

-- the places at these steps from a position lie outside the block, or come later
abbrev pub steps_later : ℕ → ℕ → (ℕ → Bool) → ℕ → List Step → Bool
steps_later w h is_later p [] = true
steps_later w h is_later p (s ∷ steps) =
    (let c = p / h + s.columns in let r = p % h + s.rows in if nat_lt c w && nat_lt r h then is_later (c * h + r) else true)
    && steps_later w h is_later p steps

-- what a context reads comes later
abbrev pub keeps_order : ℕ → ℕ → List Step → List ℕ → Bool
keeps_order w h steps [] = true
keeps_order w h steps (p ∷ later) = steps_later w h (is_in later) p steps && keeps_order w h steps later

-- the same of a scan of a transform
abbrev pub is_whole : TxSize → TxClass → List ℕ → Bool
is_whole size class scan = is_permutation (coded_area size) scan

abbrev pub is_ordered : TxSize → TxClass → List ℕ → Bool
is_ordered size class scan = keeps_order (coded_width size) (coded_height size) (base_steps class) scan

-- the rules of a scan
abbrev pub scan_rules : TxSize → TxClass → List ℕ → List Check
scan_rules size class scan = rule 4 (is_whole size class scan) ∷ rule 5 (is_ordered size class scan) ∷ []

-- a scan that breaks none
abbrev pub IsScan : TxSize → TxClass → List ℕ → Type 0
IsScan size class scan = first_broken (scan_rules size class scan) ≡ None

-- the position at a place of a scan is that of a coded coefficient
abbrev pub IsCodedAt : TxSize → List ℕ → ℕ → Type 0
IsCodedAt size scan i = i < length scan → slice_index scan i < coded_area size

abbrev pub class_number : TxClass → ℕ
class_number TX_CLASS_2D = 0
class_number TX_CLASS_HORIZ = 1
class_number TX_CLASS_VERT = 2

abbrev pub classes : List TxClass
classes = TX_CLASS_2D ∷ TX_CLASS_HORIZ ∷ TX_CLASS_VERT ∷ []

-- the scan of a size and a class, in lists of a scan for each class for each size
abbrev pub scan_of : List (List (List ℕ)) → TxSize → TxClass → List ℕ
scan_of scans size class = slice_index_or (slice_index_or scans (tx_number size) []) (class_number class) []

-- what holds of the scan of each size and class
abbrev pub all_scans : (TxSize → TxClass → List ℕ → Bool) → List (List (List ℕ)) → Bool
all_scans holds scans = list_all (λ size. list_all (λ class. holds size class (scan_of scans size class)) classes) TX_SIZES

-- a list for each size, of a scan for each class
abbrev pub of_each : List (List (List ℕ)) → Bool
of_each scans = nat_eq (length scans) 19 && list_all (λ (of_size : List (List ℕ)). nat_eq (length of_size) 3) scans

-- the rules of all scans
abbrev pub scans_rules : List (List (List ℕ)) → List Check
scans_rules scans = rule 4 (of_each scans && all_scans is_whole scans) ∷ rule 5 (all_scans is_ordered scans) ∷ []

-- scans that break none
abbrev pub AreScans : List (List (List ℕ)) → Type 0
AreScans scans = first_broken (scans_rules scans) ≡ None
