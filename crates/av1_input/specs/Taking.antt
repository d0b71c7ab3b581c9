-- What members that are taken out of an object give, and what they leave.
use Rattle.std.specs.Prelude.{◌≡◌, ℕ, List, Option, Some, None, Result, Err}
use Rattle.serde_json.specs.Data.{Data, Members as Left}
use Rattle.serde_json.specs.Find.{get_member}
use Rattle.serde_json.specs.View.{members_view}
use Rattle.av1_input.specs.declared.error.ShapeError.{ShapeError}
use Rattle.av1_input.specs.declared.members.Members.{Members}
use Rattle.av1_input.specs.Fitted.{Fitted, Fits}
use Rattle.av1_input.specs.Kinds.{Kind}
use Rattle.av1_input.specs.Rows.{Row, fit_member, members_of, pour, without}
use Rattle.av1_input.specs.Why.{Answers, IsWhy}

-- without an error the whole is what follows; an error tells why the whole is none
abbrev pub Follows : {A : Type 0} → Option ShapeError → Fitted A → Fitted A → Type 0
Follows None whole rest = whole ≡ rest
Follows (Some error) whole rest = IsWhy error whole

-- without an error the outcome is this value
abbrev pub Tells : {A : Type 0} → Option ShapeError → A → Fitted A → Type 0
Tells error x outcome = Follows error outcome (Fits x)

-- the members that are left
abbrev pub left_of : Members → Left
left_of object = members_view object.left.entries

-- all members of a value are left, and one that is no object is an error
abbrev pub Begins : Data → Members → Type 0
Begins d object = Tells object.error (left_of object) (members_of d)

-- the member of this name was taken out, and is x, or what stands in its place
pub record Takes {A : Type 0} (name : List ℕ) (kind : Kind A) (absent : Fitted A) (old new : Members) (x : A) : Type 0 where
  pub kept : (e : ShapeError) → old.error ≡ Some e → new.error ≡ Some e
  pub told : old.error ≡ None → Tells new.error x (fit_member name kind absent (get_member name (left_of old)))
  pub left : left_of new ≡ without name (left_of old)

-- the members of these rows were taken out, and s became t
pub record Pours {S : Type 0} (rows : List (Row S)) (old new : Members) (s t : S) : Type 0 where
  pub kept : (e : ShapeError) → old.error ≡ Some e → new.error ≡ Some e
  pub told : old.error ≡ None → Tells new.error (t, left_of new) (pour rows s (left_of old))

-- the reading of an object ends: with its error, or with this outcome of the members that are left
pub record Finishes {A : Type 0} (outcome : Fitted A) (object : Members) (answer : Result A ShapeError) : Type 0 where
  pub kept : (e : ShapeError) → object.error ≡ Some e → answer ≡ Err e
  pub told : object.error ≡ None → Answers answer outcome
