-- The window of an encoder: entries leave it where a token needs room.
use Rattle.std.proofs.Common.{◌≡◌, ℕ, ◌+◌, ◌-◌, ◌*◌, ◌/◌, ◌%◌, ◌^◌, ◌<◌, ◌≤◌, ◌⊎◌, ap, subst, sym, refl, ◌∙◌, arith, inl, inr, List, [], ◌∷◌, ◌++◌, length, bit_and, ℤ, lit≤, to_z, of_z}
use Rattle.std.proofs.lemmas.List.Elements.{All-push, All-nil}
use Rattle.std.proofs.lemmas.Int.{to_z-of_z}
use lib.Signed.{mag}
use Rattle.std.proofs.lemmas.Nat.{and_mask, mod_below, pow_pos, pow-add}
use Rattle.std.proofs.Math.Logic.{∥∥₁_elim}
use Rattle.std.proofs.Math.Nat.{mul-le-mul_right, mod-eq_of_lt}
use Rattle.std.proofs.Math.Pow.{pow_mono}
use Rattle.std.proofs.Props.{props}
use Rattle.std.specs.Int.{leading_zeros, w16}
use Rattle.std.specs.Int.Digits.{number_from_digits}
use Rattle.std.specs.List.{All}
use Rattle.av1_model.specs.Interval.{Token, IsToken, IsInterval, top, bottom, narrow}
use Rattle.av1_model.specs.Position.{advance, encoder_at}
use Rattle.av1_model.specs.Window.{interval_of_window}
use Rattle.av1_model.proofs.Tokens.{edges_within, doublings_most, narrow_valid}
use Rattle.av1_model.proofs.Window.{entry_small, leaves, start_valid, window_room, window_doubles}
use Rattle.av1_ec.specs.Encoder.{weight_of, IsEncoding, HasRoom, encoder_position}

-- the mask of the low bits of a window
pub masked : (low k : ℕ) → k ≤ 31 → bit_and low (1 * 2 ^ k % 4294967296 - 1) ≡ low % 2 ^ k
masked low k h =
    let e : 1 * 2 ^ k % 4294967296 ≡ 2 ^ k = omega (arith, pow_mono {i = k} {j = 31} h) in
    ap (λ n. bit_and low (n - 1)) e ∙ and_mask low k

pub entry_fits : (low weight : ℕ) → 8 ≤ weight → low < 2 ^ (weight + 1) → low / 2 ^ (weight - 8) < 65536
entry_fits low weight a h = omega (arith, entry_small weight low a h)

-- what an entry leaves is below the next window's end too
pub rest_below : (low k rest place : ℕ) → rest ≡ low % 2 ^ k → place ≡ k → rest < 2 ^ (place + 1)
rest_below low k rest place e f =
    rw (e, f) (omega (arith, mod_below low (2 ^ k) (pow_pos k), pow_mono {i = k} {j = k + 1} (omega arith)))

pub all_pushed : (es fs : List ℕ) (e : ℕ) → All (λ x. x < 512) es → e < 512 → fs ≡ es ++ e ∷ [] → All (λ x. x < 512) fs
all_pushed es fs e c h f = subst (All (λ x. x < 512)) (sym f) (All-push (λ x. x < 512) es e c h)

-- what entries and a window write
abbrev number_of : List ℕ → ℕ → ℕ → ℕ
number_of es low weight = number_from_digits 256 es * 2 ^ weight + low

-- an entry leaves
pub room_by_one : (es rs fs : List ℕ) (low weight d rest place : ℕ) → 15 ≤ weight → weight ≤ 23 → 24 ≤ weight + d → weight + d < 32 → low < 2 ^ (weight + 1) → All (λ e. e < 512) es →
    rs ≡ es → fs ≡ rs ++ (low / 2 ^ (weight - 8)) ∷ [] → rest ≡ low % 2 ^ (weight - 8) → place ≡ weight - 8 → HasRoom es fs low weight d rest place
room_by_one es rs fs low weight d rest place a b m n h c q f x y =
    let e : fs ≡ es ++ (low / 2 ^ (weight - 8)) ∷ [] = f ∙ ap (λ s. s ++ (low / 2 ^ (weight - 8)) ∷ []) q in
    let l = leaves es fs weight low (omega arith) e in
    rw (x, y) record {
      same = l.0;
      bits = l.1;
      room = omega arith;
      carries = all_pushed es fs _ c (entry_small weight low (omega arith) h) e;
      left = inr (l.2, omega arith);
    }

-- two entries leave
pub room_by_two : (es rs fs gs : List ℕ) (low weight d middle at rest place : ℕ) → 15 ≤ weight → weight ≤ 23 → 32 ≤ weight + d → d ≤ 13 → low < 2 ^ (weight + 1) → All (λ e. e < 512) es →
    rs ≡ es → fs ≡ rs ++ (low / 2 ^ (weight - 8)) ∷ [] → middle ≡ low % 2 ^ (weight - 8) → at ≡ weight - 8 →
    gs ≡ fs ++ (middle / 2 ^ (at - 8)) ∷ [] → rest ≡ middle % 2 ^ (at - 8) → place ≡ at - 8 → HasRoom es gs low weight d rest place
room_by_two es rs fs gs low weight d middle at rest place a b m n h c q f x y g u v =
    let e : fs ≡ es ++ (low / 2 ^ (weight - 8)) ∷ [] = f ∙ ap (λ s. s ++ (low / 2 ^ (weight - 8)) ∷ []) q in
    let l = leaves es fs weight low (omega arith) e in
    let k = leaves fs gs at middle (omega arith) g in
    let same : HasRoom es gs low weight d (middle % 2 ^ (at - 8)) (at - 8) = record {
      same = k.0 ∙ subst (λ p. number_of fs middle p ≡ number_of es low weight) (sym y) (subst (λ p. number_of fs p (weight - 8) ≡ number_of es low weight) (sym x) l.0);
      bits = omega (arith, k.1, l.1);
      room = omega arith;
      carries = all_pushed fs gs _ (all_pushed es fs _ c (entry_small weight low (omega arith) h) e) (entry_small at middle (omega arith) (rest_below low (weight - 8) middle at x y)) g;
      left = inr (k.2, omega arith);
    } in
    rw (u, v) same

-- the facts of an encoder's ghost field
pub encoding_of : (es : List ℕ) (low range weight : ℕ) → ∥ IsEncoding es low range weight ∥₁ → IsEncoding es low range weight
encoding_of es low range weight h = ∥∥₁_elim h (hlevel props) (λ e. e)

-- a token's part begins below the end of the window
pub part_below : (es : List ℕ) (low range weight at above : ℕ) (t : Token) → IsEncoding es low range at → weight ≡ at → IsToken t → above ≡ range - top range t → low + above < 2 ^ (weight + 1)
part_below es low range weight at above t w x v e =
    let r : low + range ≤ 2 ^ (weight + 1) = rw x w.window.room in
    omega (arith, r, edges_within range t w.window.valid.wide w.window.valid.below v)

-- so it fits the window's type
pub part_fits : (low above weight : ℕ) → weight ≤ 23 → low + above < 2 ^ (weight + 1) → low + above < 4294967296
part_fits low above weight a h = omega (arith, pow_mono {i = weight + 1} {j = 24} (omega arith))

pub doublings_fit : (r width : ℕ) (t : Token) → 32768 ≤ r → r < 65536 → IsToken t → width ≡ top r t - bottom r t → leading_zeros w16 width ≤ 13
doublings_fit r width t a b v e = let w = edges_within r t a b v in doublings_most width (omega arith) (omega arith)

-- what a token leaves
pub record Stored (es fs : List ℕ) (low range rest width d fake : ℕ) (from to : ℤ) (t : Token) : Type 0 where
  pub wide : 32768 ≤ width * 2 ^ d % 65536
  pub encoding : IsEncoding fs (rest * 2 ^ d % 4294967296) (width * 2 ^ d % 65536) (weight_of to)
  pub position : encoder_position fs (rest * 2 ^ d % 4294967296) (width * 2 ^ d % 65536) to fake ≡ advance (encoder_position es low range from fake) t

room_after : (low range width weight d rest place above : ℕ) → low + range ≤ 2 ^ (weight + 1) → above + width ≤ range → width * 2 ^ d < 65536 →
    ((rest ≡ low + above) × (place ≡ weight)) ⊎ ((rest < 2 ^ place) × (16 ≤ place + d)) → rest * 2 ^ d + width * 2 ^ d ≤ 2 ^ (place + d + 1)
room_after low range width weight d rest place above h w f s =
    elim s [
      | inl l ↦
          let e : 2 ^ (place + d + 1) ≡ 2 ^ (weight + 1) * 2 ^ d = ap (λ n. 2 ^ n) {y = (weight + 1) + d} (omega arith) ∙ pow-add 2 (weight + 1) d in
          let b : rest + width ≤ 2 ^ (weight + 1) = omega arith in
          omega (arith, e, mul-le-mul_right (2 ^ d) b)
      | inr r ↦ window_room place rest width d r.0 f r.1
    ]

-- entries and a doubled window are the narrowed interval
narrowed : (es fs : List ℕ) (low range weight rest place : ℕ) (t : Token) → let w = top range t - bottom range t in let d = leading_zeros w16 w in
    15 ≤ weight → HasRoom es fs (low + (range - top range t)) weight d rest place → interval_of_window fs (rest * 2 ^ d) (w * 2 ^ d) (place + d) ≡ narrow (interval_of_window es low range weight) t
narrowed es fs low range weight rest place t a h =
    let w = top range t - bottom range t in
    let d = leading_zeros w16 w in
    let n = number_from_digits 256 es * 2 ^ weight in
    let l : number_from_digits 256 fs * 2 ^ (place + d) + rest * 2 ^ d ≡ (n + low + (range - top range t)) * 2 ^ d =
    window_doubles (number_from_digits 256 fs) place rest d ∙ ap (λ k. k * 2 ^ d) (h.same ∙ omega arith) in
    let s : 8 * length fs + (place + d) - 15 ≡ 8 * length es + weight - 15 + d = omega (arith, h.bits) in
    λ k. record { low = l k; range = w * 2 ^ d; shift = s k }

-- and are an encoding again
kept : (es fs : List ℕ) (low range weight rest place : ℕ) (t : Token) → let w = top range t - bottom range t in let d = leading_zeros w16 w in
    IsEncoding es low range weight → IsToken t → HasRoom es fs (low + (range - top range t)) weight d rest place → (narrow (interval_of_window es low range weight) t).shift ≤ 2 ^ 28 + 2 ^ 24 →
    IsEncoding fs (rest * 2 ^ d) (w * 2 ^ d) (place + d)
kept es fs low range weight rest place t e v h b =
    let w = top range t - bottom range t in
    let d = leading_zeros w16 w in
    let i = interval_of_window es low range weight in
    let n : narrow i t ≡ narrow i t = refl in
    let q = narrow_valid i t e.window.valid v in
    let f = edges_within range t e.window.valid.wide e.window.valid.below v in
    let r : rest * 2 ^ d + w * 2 ^ d ≤ 2 ^ (place + d + 1) =
    room_after low range w weight d rest place (range - top range t) e.window.room (omega arith) q.below
    (elim h.left [ inl l ↦ inl (l.0, l.1) | inr l ↦ inr l ]) in
    record {
      window = record {
        least = elim h.left [ inl l ↦ omega (arith, l.1, e.window.least) | inr l ↦ omega (arith, l.1) ];
        most = h.room;
        room = r;
        valid = subst IsInterval (sym (narrowed es fs low range weight rest place t e.window.least h)) q;
      };
      carries = h.carries;
      first = λ z. elim h.left [ inl l ↦ ap length l.2 ∙ e.first (omega (arith, l.1, e.window.least)) | inr l ↦ absurd (omega (arith, l.1)) ];
      shift = omega (arith, h.bits, e.window.least);
    }

-- a window of a bounded weight fits its type
window_fits : (rest width place : ℕ) → rest + width ≤ 2 ^ (place + 1) → place ≤ 23 → rest % 4294967296 ≡ rest
window_fits rest width place h a = omega (arith, pow_mono {i = place + 1} {j = 24} (omega arith))

pub stored : (es fs : List ℕ) (low range above width d weight rest place fake : ℕ) (from to : ℤ) (t : Token) → IsEncoding es low range (weight_of from) → IsToken t →
    above ≡ range - top range t → width ≡ top range t - bottom range t → d ≡ leading_zeros w16 width → weight ≡ weight_of from → weight_of to ≡ place + d →
    HasRoom es fs (low + above) weight d rest place → (advance (encoder_position es low range from fake) t).shift ≤ 2 ^ 28 + 2 ^ 24 → Stored es fs low range rest width d fake from to t
stored es fs low range above width d weight rest place fake from to t e v a w f x y h b =
    let w' = top range t - bottom range t in
    let d' = leading_zeros w16 w' in
    let f' : d ≡ d' = f ∙ ap (leading_zeros w16) w in
    let h' : HasRoom es fs (low + (range - top range t)) (weight_of from) d' rest place = subst (λ n. HasRoom es fs (low + n) (weight_of from) d' rest place) a (subst (λ n. HasRoom es fs (low + above) (weight_of from) n rest place) f' (subst (λ n. HasRoom es fs (low + above) n d rest place) x h)) in
    let k = kept es fs low range (weight_of from) rest place t e v h' b in
    let m : width * 2 ^ d ≡ w' * 2 ^ d' = λ k. w k * 2 ^ f' k in
    let n : width * 2 ^ d % 65536 ≡ w' * 2 ^ d' = ap (λ n. n % 65536) m ∙ mod-eq_of_lt k.window.valid.below in
    let r : rest * 2 ^ d % 4294967296 ≡ rest * 2 ^ d' = ap (λ n. rest * 2 ^ n % 4294967296) f' ∙ window_fits (rest * 2 ^ d') (w' * 2 ^ d') (place + d') k.window.room k.window.most in
    let y' : weight_of to ≡ place + d' = y ∙ ap (λ n. place + n) f' in
    let i : interval_of_window fs (rest * 2 ^ d % 4294967296) (width * 2 ^ d % 65536) (weight_of to) ≡ narrow (interval_of_window es low range (weight_of from)) t =
    (λ k. interval_of_window fs (r k) (n k) (y' k)) ∙ narrowed es fs low range (weight_of from) rest place t e.window.least h' in
    record {
      wide = subst (λ z. 32768 ≤ z) (sym n) k.window.valid.wide;
      encoding = rw (r, n, y') k;
      position = ap (λ i. record (encoder_at i) { fake = fake }) i;
    }

-- a writer at its start
pub fresh : (es : List ℕ) → es ≡ [] → IsEncoding es 0 32768 15
fresh es e =
    rw e record {
      window = start_valid;
      carries = All-nil (λ x. x < 512);
      first = λ _. refl;
      shift = lit≤ tt;
    }

-- a count that was written as bits
pub count_kept : (z : ℤ) (weight : ℕ) → mag z < 32768 → weight_of z ≡ weight → weight_of (to_z w16 (of_z w16 z)) ≡ weight
count_kept z weight h e = ap weight_of (to_z-of_z w16 z record { sfits = h }) ∙ e
