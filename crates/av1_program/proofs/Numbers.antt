-- Texts of digits, as the program reads them.
use Rattle.std.proofs.Common.{◌≡◌, ◌≢◌, ◌||◌, ◌==◌, not, nat_le, Result, Ok, Err, slice_index, ℕ, zero, suc, ◌+◌, ◌*◌, ◌^◌, ◌<◌, ◌≤◌, Bool, true, false, ◌&&◌, List, [], ◌∷◌, ◌⊎◌, length, sym, ap, subst, ◌∙◌, arith, refl}
use Rattle.std.specs.Char.{digit_value, is_ascii_digit}
use Rattle.std.specs.List.{list_all}
use Rattle.std.specs.Str.Parse.{AllDigits, IsNumeral, ParsesUnsigned, digits_value, digits_value_after, without_leading_plus}
use Rattle.av1_program.specs.Words.{is_number}
use Rattle.std.proofs.Math.Nat.{mul-le-mul_right, pow-succ', mul_assoc}
use Rattle.std.proofs.lemmas.Bool.{leb-true}
use Rattle.std.proofs.lemmas.Bool.Decides.{nat_tests}

digit_below : (c : ℕ) → is_ascii_digit c ≡ true → digit_value c < 10
digit_below c is = grind (arith, nat_tests)

and_both : (a b : Bool) → (a && b) ≡ true → (a ≡ true) × (b ≡ true)
and_both true b is = (refl, is)
and_both false b is = absurd cc

-- bytes that are digits are what `parse` reads
pub all_digits : (text : List ℕ) → list_all is_ascii_digit text ≡ true → AllDigits 10 text
all_digits [] all = tt
all_digits (c ∷ cs) all = let both = and_both (is_ascii_digit c) (list_all is_ascii_digit cs) all in (digit_below c both.0, all_digits cs both.1)

-- digits that follow those of a number
value_after : (text : List ℕ) (n k : ℕ) → length text ≤ k → AllDigits 10 text → digits_value_after 10 n text < (n + 1) * 10 ^ k
value_after [] n zero few all = omega arith
value_after [] n (suc k) few all =
    let more = value_after [] n k (omega arith) tt in
    rw (pow-succ' 10 k) (omega (arith, more))
value_after (c ∷ cs) n zero few all = absurd (omega (arith, few))
value_after (c ∷ cs) n (suc k) few all =
    let later = value_after cs (n * 10 + digit_value c) k (omega (arith, few)) all.1 in
    let most : n * 10 + digit_value c + 1 ≤ (n + 1) * 10 = omega (arith, all.0) in
    let here : (n * 10 + digit_value c + 1) * 10 ^ k ≤ (n + 1) * 10 * 10 ^ k = mul-le-mul_right (10 ^ k) most in
    rw (pow-succ' 10 k, sym (mul_assoc (n + 1) 10 (10 ^ k))) (omega (arith, later, here))

-- up to six digits write a number below a million
pub value_below : (text : List ℕ) → length text ≤ 6 → AllDigits 10 text → digits_value 10 text < 1000000
value_below text few all = let below = value_after text 0 6 few all in omega (arith, below)

-- ---- a number is told by its length, its first digit, and that there are digits alone

pub one_digit : (text : List ℕ) → length text ≡ 1 → list_all is_ascii_digit text ≡ is_number text
unfolding is_number
one_digit text one = grind (arith, nat_tests)

pub more_digits : (text : List ℕ) → 2 ≤ length text → length text ≤ 6 → slice_index text 0 ≢ 48 → list_all is_ascii_digit text ≡ is_number text
unfolding is_number
more_digits text least most first = grind (arith, nat_tests)

pub zero_first : (text : List ℕ) → 2 ≤ length text → slice_index text 0 ≡ 48 → false ≡ is_number text
unfolding is_number
zero_first text least first = grind (arith, nat_tests)

pub no_number : (text : List ℕ) → (length text ≡ 0) ⊎ (6 < length text) → false ≡ is_number text
unfolding is_number
no_number text none = grind (arith, nat_tests)

pub record IsPlain (text : List ℕ) : Type 0 where
  pub some : 0 < length text
  pub few : length text ≤ 6
  pub digits : list_all is_ascii_digit text ≡ true

is_plain : (text : List ℕ) → is_number text ≡ true → IsPlain text
unfolding is_number
is_plain text is =
    let three = (and_both (nat_le 1 (length text) && nat_le (length text) 6 && list_all is_ascii_digit text) (not (slice_index text 0 == 48) || length text == 1) is).0 in
    let two = and_both (nat_le 1 (length text) && nat_le (length text) 6) (list_all is_ascii_digit text) three in
    let one = and_both (nat_le 1 (length text)) (nat_le (length text) 6) two.0 in
    record { some = leb-true 1 (length text) one.0; few = leb-true (length text) 6 one.1; digits = two.1 }

not_plus : (c : ℕ) → is_ascii_digit c ≡ true → (c == 43) ≡ false
not_plus c is = grind (arith, nat_tests)

no_plus : (text : List ℕ) → list_all is_ascii_digit text ≡ true → without_leading_plus text ≡ text
no_plus [] all = refl
no_plus (c ∷ cs) all = let both = and_both (is_ascii_digit c) (list_all is_ascii_digit cs) all in rw (not_plus c both.0) refl

-- what `parse` gives for a number
pub parsed : {E : Type 0} (text : List ℕ) (r : Result ℕ E) → is_number text ≡ true → ParsesUnsigned 32 10 text r → r ≡ Ok (digits_value 10 text)
parsed text (Ok n) is parses = ap Ok (parses.1 ∙ ap (digits_value 10) (no_plus text (is_plain text is).digits))
parsed text (Err e) is parses =
    let plain = is_plain text is in
    let same = sym (no_plus text plain.digits) in
    let all = all_digits text plain.digits in
    let below : digits_value 10 text < 2 ^ 32 = omega (arith, value_below text plain.few all) in
    let Reads : List ℕ → Type 0 = λ ds. IsNumeral 10 ds × (digits_value 10 ds < 2 ^ 32) in
    absurd (parses (subst Reads same ((plain.some, all), below)))

pub number_below : (text : List ℕ) → is_number text ≡ true → digits_value 10 text < 1000000
number_below text is = let plain = is_plain text is in value_below text plain.few (all_digits text plain.digits)
