-- The fields of a context by name, as a list of names and places.
use Rattle.std.specs.Prelude.{ℕ, ◌+◌, ◌*◌, List, [], ◌∷◌, ◌++◌, ◌&&◌, nat_le, nat_lt, if◌then◌else◌, Option, Some, None, map, codes}
use Rattle.std.specs.Borrow.{Bor}
use Rattle.av1_cdf.specs.Runs.{end_of}
use Rattle.av1_cdf.specs.declared.run.Run.{Run}
use Rattle.av1_cdf.specs.Layout.{Field, fields, layout, named, count_in, length_in, size_of_context}

-- name, first place and place past the end
abbrev pub Entry : Type 0
Entry = List ℕ × ℕ × ℕ

abbrev pub entry_of : Bor (List ℕ) × ℕ × ℕ → Entry
entry_of e = (e.0.now, e.1, e.2)

abbrev pub entries_of : List (Bor (List ℕ) × ℕ × ℕ) → List Entry
entries_of es = map entry_of es

-- the entry of a field, by its name and its run
abbrev pub of_run : Bor (List ℕ) × Run → Entry
of_run field = (field.0.now, field.1.place, end_of field.1)

abbrev pub of_field : Field → Entry
of_field f = (f.name, f.place, f.place + count_in f.dimensions * length_in f.dimensions)

-- the fields by rising places; what vectors have is one field
unfoldable pub field_map : List Entry
field_map = map of_field fields ++ (codes "nmv_context", (named (codes "joints_cdf") layout).place, size_of_context) ∷ []

-- the name of the first field that has a place
abbrev pub name_at : ℕ → List Entry → Option (List ℕ)
name_at place [] = None
name_at place (e ∷ es) = if nat_le e.1 place && nat_lt place e.2 then Some e.0 else name_at place es
