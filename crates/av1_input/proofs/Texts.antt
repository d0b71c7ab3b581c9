-- Reading a JSON text that is or isn't UTF-8.
use Rattle.std.proofs.Common.{◌≡◌, ℕ, Bool, true, false, List, Option, Some, None, cond, refl}
use Rattle.std.specs.Str.{IsUtf8, is_utf8}
use Rattle.std.proofs.lemmas.Str.{IsUtf8-from_is_utf8, is_utf8-from_IsUtf8}
use Rattle.serde_json.specs.Data.{Data}
use Rattle.serde_json.specs.Read.{read}
use Rattle.av1_input.specs.Unit.{json_of}

pub is_read : (text : List ℕ) (d : Data) → IsUtf8 text × (read text ≡ Some d) → json_of text ≡ Some d
unfolding json_of
is_read text d h = rw (is_utf8-from_IsUtf8 text h.0) h.1

no_text : (b : Bool) (found : Option Data) → (b ≡ true → found ≡ None) → cond b found None ≡ None
no_text true found h = h refl
no_text false found h = refl

pub is_refused : (text : List ℕ) → (IsUtf8 text → read text ≡ None) → json_of text ≡ None
unfolding json_of
is_refused text h = no_text (is_utf8 text) (read text) (λ e. h (IsUtf8-from_is_utf8 text e))
