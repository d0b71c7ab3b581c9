-- Writers that began alike tell the same.
use Rattle.std.proofs.Common.{◌≡◌, ℕ, ◌+◌, ◌*◌, ◌/◌, ◌≤◌, List, [], ◌∷◌, ap, sym, refl, ◌∙◌, arith}
use Rattle.std.proofs.lemmas.List.Elements.{All-head, All-tail}
use Rattle.std.specs.Prelude.{All, unwrap_or, length}
use Rattle.av1_model.specs.Eighths.{eighths}
use Rattle.av1_model.specs.Interval.{Interval, IsInterval, Token, IsToken, narrow, whole, final_bytes}
use Rattle.av1_model.specs.Position.{Position, advance, advance_all, encoder_at, interval_of}
use Rattle.av1_model.proofs.Final.{final_short}
use Rattle.av1_model.proofs.Costs.{eighths_rise}
use Rattle.av1_model.proofs.Positions.{advance_valid, range_advanced_all, shift_advanced_all, fake_advanced_all, tokens_advanced_all}
use Rattle.av1_ec.specs.Rate.{tell_at, tell_frac_at, told, new_recorder, new_encoder, narrow_all}
use Rattle.av1_ec.specs.Recorder.{tokens_at}
use Rattle.av1_ec.proofs.FlatBits.{shift_rises}

-- whatever else is known of them
pub tell_alike : (p q : Position) (ts : List Token) (fake : ℕ) → p.range ≡ q.range → p.shift ≡ q.shift → p.fake ≡ q.fake → tell_at (told p ts fake) ≡ tell_at (told q ts fake)
tell_alike p q ts fake a b f =
    let s = shift_advanced_all p q ts a b in
    let g = fake_advanced_all p ts ∙ f ∙ sym (fake_advanced_all q ts) in
    λ k. s k + 1 + (g k + fake) / 256

pub tell_frac_alike : (p q : Position) (ts : List Token) (fake : ℕ) → p.range ≡ q.range → p.shift ≡ q.shift → p.fake ≡ q.fake → tell_frac_at (told p ts fake) ≡ tell_frac_at (told q ts fake)
tell_frac_alike p q ts fake a b f =
    let s = shift_advanced_all p q ts a b in
    let r = range_advanced_all p q ts a b in
    let g = fake_advanced_all p ts ∙ f ∙ sym (fake_advanced_all q ts) in
    λ k. eighths (record { low = 0; range = r k; shift = s k }) + 8 * ((g k + fake) / 256) + (g k + fake)

-- an encoder's interval is narrowed by the tokens
pub encoder_narrowed : (i : Interval) (ts : List Token) → advance_all (encoder_at i) ts ≡ encoder_at (narrow_all i ts)
encoder_narrowed i [] = refl
encoder_narrowed i (t ∷ ts) = encoder_narrowed (narrow i t) ts

pub tokens_recorded : (ts : List Token) → tokens_at (advance_all new_recorder ts) ≡ ts
tokens_recorded ts = ap (λ o. unwrap_or o []) (tokens_advanced_all new_recorder ts [] refl)

pub replayed : (ts : List Token) → advance_all new_encoder (tokens_at (advance_all new_recorder ts)) ≡ encoder_at (narrow_all whole ts)
replayed ts = ap (advance_all new_encoder) (tokens_recorded ts) ∙ encoder_narrowed whole ts

-- the bytes of the end are the bits that are told, where none of them is fake
pub ending_told : (p : Position) (bytes : List ℕ) → bytes ≡ final_bytes (interval_of p) → p.fake ≡ 0 → length bytes ≡ (tell_at p + 7) / 8
ending_told p bytes e f =
    ap length e ∙ final_short (interval_of p) ∙ sym (ap (λ n. (p.shift + 1 + n / 256 + 7) / 8) f ∙ omega arith)

-- a token costs no less than nothing, whatever else is known of the writer
frac_step : (p : Position) (t : Token) → IsInterval (interval_of p) → IsToken t → eighths (interval_of p) ≤ eighths (interval_of (advance p t))
frac_step p t v w = eighths_rise (interval_of p) t v w

pub frac_rises : (p : Position) (ts : List Token) → IsInterval (interval_of p) → All IsToken ts → tell_frac_at p ≤ tell_frac_at (advance_all p ts)
frac_rises p [] v w = omega arith
frac_rises p (t ∷ ts) v w =
    let h : IsToken t = All-head IsToken t ts w in
    omega (arith, frac_step p t v h, frac_rises (advance p t) ts (advance_valid p t v h) (All-tail IsToken t ts w))

pub tell_rises : (p : Position) (ts : List Token) → tell_at p ≤ tell_at (advance_all p ts)
tell_rises p ts = let f = fake_advanced_all p ts in omega (arith, shift_rises p ts, ap (λ n. n / 256) f)
