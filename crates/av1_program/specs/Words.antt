-- The words that the program knows.
use Rattle.std.specs.Prelude.{ℕ, List, [], ◌∷◌, Bool, Option, Some, None, option_map, length, nat_le, not, ◌&&◌, ◌||◌, ◌==◌, slice_index, codes, if◌then◌else◌}
use Rattle.std.specs.Char.{is_ascii_digit}
use Rattle.std.specs.List.{list_all}
use Rattle.std.specs.Str.{bytes_eq}
use Rattle.std.specs.Str.Parse.{digits_value}
use Rattle.av1_program.specs.declared.words.Word.{Word}
use Rattle.av1_program.specs.declared.words.Word.TheVariants.{Write, Raw, Make}

-- one to six digits, of which the first is 0 only where it is the only one
unfoldable pub is_number : List ℕ → Bool
is_number text = nat_le 1 (length text) && nat_le (length text) 6 && list_all is_ascii_digit text && (not (slice_index text 0 == 48) || length text == 1)

abbrev pub number_named : List ℕ → Option ℕ
number_named text = if is_number text then Some (digits_value 10 text) else None

abbrev pub word_named : List ℕ → Option Word
word_named name = if bytes_eq name (codes "write") then Some Write else if bytes_eq name (codes "raw") then Some Raw else None

abbrev pub word_with : List ℕ → List ℕ → Option Word
word_with name number = if bytes_eq name (codes "make") then option_map Make (number_named number) else None

-- there is one word, and it is one of these, or there is `make` and a number
abbrev pub word_of : List (List ℕ) → Option Word
word_of [] = None
word_of (name ∷ []) = word_named name
word_of (name ∷ number ∷ []) = word_with name number
word_of (name ∷ number ∷ more ∷ words) = None
