-- Tables of the members of an object, and what an object is by its table.
use Rattle.std.specs.Prelude.{ℕ, List, [], ◌∷◌, Option, Some, None}
use Rattle.std.specs.Ordering.{nat_cmp, match_ordering}
use Rattle.std.specs.Cmp.Lexicographic.{slice_cmp}
use Rattle.serde_json.specs.Data.{Data, object, Members, no_members, member}
use Rattle.serde_json.specs.Find.{get_member}
use Rattle.av1_input.specs.Fitted.{Fitted, Fits, Unfit, ◌>>=◌, name_step, within}
use Rattle.av1_input.specs.Kinds.{Kind}

-- A row: a member's name, its kind, what stands in its place where it is missing, and its place in the whole.
-- What stands for a missing member may rest on the members before it.
pub data Row (S : Type 0) : Type 1 where
  row : {A : Type 0} → List ℕ → Kind A → (S → Fitted A) → (S → A → S) → Row S

-- a member with a default that rests on the members before it
abbrev pub or_by : {A S : Type 0} → List ℕ → Kind A → (S → A) → (S → A → S) → Row S
or_by name kind default set = row name kind (λ s. Fits (default s)) set

-- a member with a default of its own
abbrev pub or : {A S : Type 0} → List ℕ → Kind A → A → (S → A → S) → Row S
or name kind default set = or_by name kind (λ s. default) set

-- a member with the default of its kind
abbrev pub optional : {A S : Type 0} → List ℕ → Kind A → (S → A → S) → Row S
optional name kind set = or name kind kind.none set

-- a member that must be there
abbrev pub required : {A S : Type 0} → List ℕ → Kind A → (S → A → S) → Row S
required name kind set = row name kind (λ s. Unfit []) set

-- the members but the one of this name
abbrev pub without : List ℕ → Members → Members
without name no_members = no_members
without name (member k d ms) = match_ordering (slice_cmp nat_cmp name k) (member k d (without name ms)) ms (member k d (without name ms))

abbrev pub given : {A : Type 0} → (Data → Fitted A) → Fitted A → Option Data → Fitted A
given fit absent None = absent
given fit absent (Some d) = fit d

-- a member of this name and kind, or what stands in its place
unfoldable pub fit_member : {A : Type 0} → List ℕ → Kind A → Fitted A → Option Data → Fitted A
fit_member name kind absent found = within (name_step name) (given kind.fit absent found)

-- The one recursion over a table and the members of an object: row by row a member is taken out and put into the whole.
abbrev pub pour : {S : Type 0} → List (Row S) → S → Members → Fitted (S × Members)
pour [] s ms = Fits (s, ms)
pour (row name kind absent set ∷ rows) s ms = do
  x ← fit_member name kind (absent s) (get_member name ms)
  pour rows (set s x) (without name ms)

-- the rows in turn, and then what is made of the whole and of the members that are left
abbrev pub then_of : {S W : Type 0} → List (Row S) → (S → Members → Fitted W) → S → Members → Fitted W
then_of rows next s ms = pour rows s ms >>= λ p. next p.0 p.1

-- no member is left: members lie in the order of their names' bytes, and the first that is left is unfit
abbrev pub no_stranger : Members → Fitted (Unit {0})
no_stranger no_members = Fits tt
no_stranger (member name d ms) = Unfit (name_step name)

-- the end of an object, and what is made of the whole
abbrev pub closed : {S W : Type 0} → (S → W) → S → Members → Fitted W
closed make s ms = no_stranger ms >>= λ _. Fits (make s)

abbrev pub members_of : Data → Fitted Members
members_of (object ms) = Fits ms
members_of _ = Unfit []

unfoldable pub fit_then : {S W : Type 0} → List (Row S) → (S → Members → Fitted W) → S → Data → Fitted W
fit_then rows next start d = do
  ms ← members_of d
  then_of rows next start ms

-- an object that is what its members say
abbrev pub object_of : {S : Type 0} → List (Row S) → S → Kind S
object_of rows start = record { none = start; fit = fit_then rows (closed (λ s. s)) start }
