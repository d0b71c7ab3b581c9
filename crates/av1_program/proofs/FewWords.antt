-- Lists of one word and of two.
use Rattle.std.proofs.Common.{◌≡◌, List, [], ◌∷◌, None, length, get_or, map, String, Global, string_bytes, sym, ap, ◌∙◌, arith, refl}
use Rattle.av1_program.specs.Words.{word_named, word_of, word_with}

pub one_word : (words : List (String Global)) (word : String Global) → length words ≡ 1 → word ≡ get_or words 0 word → word_of (map string_bytes words) ≡ word_named (string_bytes word)
one_word [] word one at = absurd (omega arith)
one_word (w ∷ []) word one at = ap (λ s. word_named (string_bytes s)) (sym at)
one_word (w ∷ v ∷ words) word one at = absurd (omega arith)

pub two_words : (words : List (String Global)) (word number : String Global) → length words ≡ 2 → word ≡ get_or words 0 word → number ≡ get_or words 1 number
    → word_of (map string_bytes words) ≡ word_with (string_bytes word) (string_bytes number)
two_words [] word number two at next = absurd (omega arith)
two_words (w ∷ []) word number two at next = absurd (omega arith)
two_words (w ∷ v ∷ []) word number two at next = ap (λ s. word_with (string_bytes s) (string_bytes v)) (sym at) ∙ ap (λ s. word_with (string_bytes word) (string_bytes s)) (sym next)
two_words (w ∷ v ∷ u ∷ words) word number two at next = absurd (omega arith)

pub other_words : (words : List (String Global)) → (length words ≡ 1 → ⊥) → (length words ≡ 2 → ⊥) → word_of (map string_bytes words) ≡ None
other_words [] one two = refl
other_words (w ∷ []) one two = absurd (one refl)
other_words (w ∷ v ∷ []) one two = absurd (two refl)
other_words (w ∷ v ∷ u ∷ words) one two = refl
