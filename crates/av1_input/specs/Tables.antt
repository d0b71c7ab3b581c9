-- What the distributions start from: the uniform tables by name, or four sets of numbers.
use Rattle.std.specs.Prelude.{ℕ, List, Option, Some, None, if◌then◌else◌, codes}
use Rattle.std.specs.Str.{bytes_eq}
use Rattle.serde_json.specs.Data.{Data, string}
use Rattle.av1_cdf.specs.Tables.{uniform_sets}
use Rattle.av1_input.specs.Fitted.{Fitted, Fits, ◌>>=◌, or_unfit}
use Rattle.av1_input.specs.Kinds.{Kind, exactly, list, whole}
use Rattle.av1_input.specs.declared.tables.GivenTables.{GivenTables}
use Rattle.av1_input.specs.declared.tables.GivenTables.TheVariants.{Uniform, Sets}

abbrev pub tables_named : List ℕ → Option GivenTables
tables_named name = if bytes_eq name (codes "uniform") then Some Uniform else None

abbrev pub sets : Kind (List (List ℕ))
sets = exactly 4 (list (whole 16))

unfoldable pub fit_tables : Data → Fitted GivenTables
fit_tables (string name) = or_unfit (tables_named name)
fit_tables d = sets.fit d >>= λ xs. Fits (Sets xs)

abbrev pub given_tables : Kind GivenTables
given_tables = record { none = Uniform; fit = fit_tables }

-- the sets that stand for what was given
abbrev pub sets_of : GivenTables → List (List ℕ)
sets_of Uniform = uniform_sets
sets_of (Sets xs) = xs
