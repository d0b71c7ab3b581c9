-- The end of an encoder: the window is rounded, and the carries are summed.
use Rattle.std.proofs.Common.{◌≡◌, ℕ, suc, ◌+◌, ◌-◌, ◌*◌, ◌/◌, ◌%◌, ◌^◌, ◌<◌, ◌≤◌, ap, sym, subst, refl, ◌∙◌, arith, ◌≢◌, List, [], ◌∷◌, ◌++◌, length, drop, set, get_or, length-append}
use Rattle.std.proofs.lemmas.Int.Digits.{number_push}
use Rattle.std.proofs.Math.Pow.{pow_mono}
use Rattle.std.specs.Int.{bytes_high_first}
use Rattle.std.specs.Int.Digits.{number_from_digits}
use Rattle.av1_model.specs.Interval.{point, final_bytes}
use Rattle.av1_model.specs.Window.{interval_of_window}
use Rattle.av1_model.proofs.Numbers.{carry_more}
use Rattle.av1_model.proofs.Window.{entry_small, flushed, flushed_two}

-- what `done` rounds a window to
abbrev pub rounded : ℕ → ℕ
rounded low = (low + 16383) / 32768 * 32768 % 4294967296 + 16384

pub rounded_is : (low weight : ℕ) → weight ≤ 23 → low + 32768 ≤ 2 ^ (weight + 1) → rounded low ≡ point low * 16384
rounded_is low weight a h = omega (arith, pow_mono {i = weight + 1} {j = 24} (omega arith))

pub rounded_small : (low weight : ℕ) → 15 ≤ weight → weight ≤ 23 → low + 32768 ≤ 2 ^ (weight + 1) → rounded low / 2 ^ (weight - 8) < 512
rounded_small low weight a b h = entry_small weight (rounded low) (omega arith) (omega (arith, rounded_is low weight b h))

pub rounded_fits : (low weight : ℕ) → 15 ≤ weight → weight ≤ 23 → low + 32768 ≤ 2 ^ (weight + 1) → rounded low / 2 ^ (weight - 8) < 65536
rounded_fits low weight a b h = omega (arith, rounded_small low weight a b h)

length_push : (es fs : List ℕ) (e : ℕ) → fs ≡ es ++ e ∷ [] → length fs ≡ length es + 1
length_push es fs e f = ap length f ∙ length-append es (e ∷ [])

number_pushed : (es fs : List ℕ) (e : ℕ) → fs ≡ es ++ e ∷ [] → number_from_digits 256 fs ≡ number_from_digits 256 es * 256 + e
number_pushed es fs e f = ap (number_from_digits 256) f ∙ number_push 256 es e

-- the end as one entry
pub ended : (es fs : List ℕ) (low weight : ℕ) → 15 ≤ weight → weight ≤ 23 → weight ≢ 23 → low + 32768 ≤ 2 ^ (weight + 1) → fs ≡ es ++ (rounded low / 2 ^ (weight - 8)) ∷ [] →
    bytes_high_first (length fs) (number_from_digits 256 fs) ≡ final_bytes (interval_of_window es low 32768 weight)
ended es fs low weight a b n h e =
    let p = rounded_is low weight b h in
    let x = number_pushed es fs _ e ∙ ap (λ z. number_from_digits 256 es * 256 + z / 2 ^ (weight - 8)) p in
    (λ k. bytes_high_first (length_push es fs _ e k) (x k)) ∙ sym (flushed (interval_of_window es low 32768 weight) (number_from_digits 256 es) (length es) weight low refl (omega arith) a (omega arith))

-- the end as two entries
pub ended_two : (es fs gs : List ℕ) (low weight : ℕ) → weight ≡ 23 → low + 32768 ≤ 2 ^ (weight + 1) → fs ≡ es ++ (rounded low / 2 ^ (weight - 8)) ∷ [] → gs ≡ fs ++ (rounded low % 32768 / 128) ∷ [] →
    bytes_high_first (length gs) (number_from_digits 256 gs) ≡ final_bytes (interval_of_window es low 32768 weight)
ended_two es fs gs low weight w h e f =
    let p = rounded_is low weight (omega arith) h in
    let q : rounded low / 2 ^ (weight - 8) ≡ point low * 16384 / 32768 = (λ k. p k / 2 ^ (w k - 8)) in
    let x : number_from_digits 256 gs ≡ (number_from_digits 256 es * 256 + point low * 16384 / 32768) * 256 + point low * 16384 % 32768 / 128 =
    number_pushed fs gs _ f ∙ (λ k. number_pushed es fs _ e k * 256 + p k % 32768 / 128) ∙ ap (λ z. (number_from_digits 256 es * 256 + z) * 256 + point low * 16384 % 32768 / 128) q in
    let n : length gs ≡ length es + 2 = length_push fs gs _ f ∙ ap (λ k. k + 1) (length_push es fs _ e) ∙ omega arith in
    (λ k. bytes_high_first (n k) (x k))
    ∙ sym (flushed_two (interval_of_window es low 32768 weight) (number_from_digits 256 es) (length es) low (ap (λ k. number_from_digits 256 es * 2 ^ k + low) w) (omega arith))

-- a step of the loop over the entries, from the last to the first
pub carried : (es out : List ℕ) (offs carry : ℕ) → 0 < offs → offs ≤ length es → length out ≡ length es →
    drop offs out ≡ bytes_high_first (length es - offs) (number_from_digits 256 (drop offs es)) → carry ≡ number_from_digits 256 (drop offs es) / 256 ^ (length es - offs) →
    let j = offs - 1 in
    (drop j (set out j ((carry + get_or es j 0) % 256)) ≡ bytes_high_first (length es - j) (number_from_digits 256 (drop j es))) × ((carry + get_or es j 0) / 256 ≡ number_from_digits 256 (drop j es) / 256 ^ (length es - j))
carried es out offs carry p h n f c =
    let s : offs ≡ suc (offs - 1) = omega arith in
    carry_more es out (offs - 1) carry (omega arith) n
    (subst (λ k. drop k out ≡ bytes_high_first (length es - k) (number_from_digits 256 (drop k es))) s f)
    (subst (λ k. carry ≡ number_from_digits 256 (drop k es) / 256 ^ (length es - k)) s c)
