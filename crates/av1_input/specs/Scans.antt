-- In what order coefficients are coded: the diagonal scans by name, or a scan for each class of each size.
use Rattle.std.specs.Prelude.{ℕ, List, Option, Some, None, if◌then◌else◌, codes}
use Rattle.std.specs.Str.{bytes_eq}
use Rattle.serde_json.specs.Data.{Data, string}
use Rattle.av1_coef.specs.Diagonal.{diagonal_scans}
use Rattle.av1_input.specs.Fitted.{Fitted, Fits, ◌>>=◌, or_unfit}
use Rattle.av1_input.specs.Kinds.{Kind, exactly, list, whole}
use Rattle.av1_input.specs.declared.scans.GivenScans.{GivenScans}
use Rattle.av1_input.specs.declared.scans.GivenScans.TheVariants.{Diagonal, OfEach}

abbrev pub scans_named : List ℕ → Option GivenScans
scans_named name = if bytes_eq name (codes "diagonal") then Some Diagonal else None

-- the positions of a transform in the order of their coefficients
abbrev pub scan : Kind (List ℕ)
scan = list (whole 16)

-- the three classes of a size
abbrev pub class_scans : Kind (List (List ℕ))
class_scans = exactly 3 scan

abbrev pub size_scans : Kind (List (List (List ℕ)))
size_scans = exactly 19 class_scans

unfoldable pub fit_scans : Data → Fitted GivenScans
fit_scans (string name) = or_unfit (scans_named name)
fit_scans d = size_scans.fit d >>= λ xs. Fits (OfEach xs)

abbrev pub given_scans : Kind GivenScans
given_scans = record { none = Diagonal; fit = fit_scans }

-- the scans that stand for what was given
abbrev pub scans_of : GivenScans → List (List (List ℕ))
scans_of Diagonal = diagonal_scans
scans_of (OfEach xs) = xs
