-- The members that are left beside the data that they stand for.
use Rattle.std.proofs.Common.{◌≡◌, ℕ, List, [], ◌∷◌, Option, Some, None, is_some, option_map, Ordering, Less, Equal, Greater, string_bytes, nat_cmp, is_eq, cond, refl, sym, ap, ◌∙◌}
use Rattle.std.specs.Cmp.Lexicographic.{slice_cmp}
use Rattle.std.specs.Map.{lookup, remove_entry}
use Rattle.std.specs.Ordering.{match_ordering}
use Rattle.std.specs.BTreeMap.{is_at}
use Rattle.serde_json.specs.Data.{Members, member}
use Rattle.serde_json.specs.Find.{get_member}
use Rattle.serde_json.specs.View.{view, members_view}
use Rattle.serde_json.specs.declared.value.Value.{Value}
use Rattle.serde_json.proofs.Views.{Entry, view-lookup}
use Rattle.av1_input.specs.Rows.{without}

pub view_found : (name : List ℕ) (es : List Entry) → option_map view (lookup (is_at (λ k. slice_cmp nat_cmp name (string_bytes k))) es) ≡ get_member name (members_view es)
view_found name es = view-lookup name es

removed : (o : Ordering) (e : Entry) (es rest : List Entry) (left : Members) → members_view rest ≡ left
    → members_view (cond (is_eq o) es (e ∷ rest)) ≡ match_ordering o (member (string_bytes e.0) (view e.1) left) (members_view es) (member (string_bytes e.0) (view e.1) left)
removed Less e es rest left h = ap (member (string_bytes e.0) (view e.1)) h
removed Equal e es rest left h = refl
removed Greater e es rest left h = ap (member (string_bytes e.0) (view e.1)) h

pub view_without : (name : List ℕ) (es : List Entry) → members_view (remove_entry (is_at (λ k. slice_cmp nat_cmp name (string_bytes k))) es) ≡ without name (members_view es)
view_without name [] = refl
view_without name (e ∷ es) = removed (slice_cmp nat_cmp name (string_bytes e.0)) e es _ _ (view_without name es)

some_viewed : (found : Option Value) → is_some (option_map view found) ≡ is_some found
some_viewed None = refl
some_viewed (Some v) = refl

pub view_has : (name : List ℕ) (es : List Entry) → is_some (lookup (is_at (λ k. slice_cmp nat_cmp name (string_bytes k))) es) ≡ is_some (get_member name (members_view es))
view_has name es = sym (some_viewed (lookup (is_at (λ k. slice_cmp nat_cmp name (string_bytes k))) es)) ∙ ap is_some (view_found name es)
