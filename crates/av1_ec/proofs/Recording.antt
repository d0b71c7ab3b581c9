-- Recording tokens.
use Rattle.std.proofs.Common.{◌≡◌, ℕ, ◌+◌, ◌-◌, ◌*◌, ◌%◌, ◌^◌, ◌≤◌, List, [], ◌∷◌, ◌++◌, length, take, ap, subst, sym, refl, ◌∙◌, arith}
use Rattle.std.proofs.Math.Logic.{∥∥₁_elim}
use Rattle.std.proofs.Props.{props}
use Rattle.std.proofs.lemmas.List.{map-append, take-map, take-take, length-take-le}
use Rattle.std.proofs.lemmas.List.Elements.{All-nil, All-push}
use Rattle.std.specs.Int.{leading_zeros, w16}
use Rattle.std.specs.List.{All}
use Rattle.av1_model.specs.Interval.{Token, IsToken, top, bottom}
use Rattle.av1_model.specs.Position.{Position, advance, advance_all}
use Rattle.av1_model.proofs.Positions.{advance_all-last, range_advanced, shift_advanced}
use Rattle.av1_ec.specs.Checkpoint.{reach}
use Rattle.av1_ec.specs.Counter.{counter_position}
use Rattle.av1_ec.specs.Recorder.{IsRecorded, IsRecording, token_in, tokens_in}
use Rattle.av1_ec.specs.RecorderLaw.{recording_interval}
use Rattle.av1_ec.specs.declared.recorder.Recorded.{Recorded}
use Rattle.av1_ec.specs.declared.storage.WriterCheckpoint.{WriterCheckpoint}
use Rattle.av1_ec.proofs.Counting.{counted}

-- the facts of a recorder's ghost field
pub recording_of : (ts : List Token) (range bits : ℕ) → ∥ IsRecording ts range bits ∥₁ → IsRecording ts range bits
recording_of ts range bits h = ∥∥₁_elim h (hlevel props) (λ r. r)

pub recording_begun : (rs : List Recorded) → rs ≡ [] → IsRecording (tokens_in rs) 32768 0
recording_begun rs e = rw e record { valid = All-nil IsToken; range_after = refl; shift_after = refl; few = omega arith }

pub tokens_pushed : (rs ss : List Recorded) (r : Recorded) → ss ≡ rs ++ r ∷ [] → tokens_in ss ≡ tokens_in rs ++ token_in r ∷ []
tokens_pushed rs ss r e = ap tokens_in e ∙ map-append token_in rs (r ∷ [])

pub tokens_cut : (rs ss : List Recorded) (n : ℕ) → ss ≡ take n rs → tokens_in ss ≡ take n (tokens_in rs)
tokens_cut rs ss n e = ap tokens_in e ∙ sym (take-map token_in n rs)

-- a token more is recorded
pub recorded : (ts us : List Token) (range bits width d : ℕ) (t : Token) → IsRecording ts range bits → IsToken t →
    width ≡ top range t - bottom range t → d ≡ leading_zeros w16 width → (advance (counter_position range bits 0) t).shift ≤ 2 ^ 28 + 2 ^ 24 → us ≡ ts ++ t ∷ [] →
    IsRecording us (width * 2 ^ d % 65536) (bits + d)
recorded ts us range bits width d t r v w f b e =
    let s = counted range bits width d t (recording_interval ts range bits r) v w f b in
    let start = counter_position 32768 0 0 in
    let p = advance_all start ts in
    let l : advance_all start us ≡ advance p t = ap (advance_all start) e ∙ advance_all-last start ts t in
    record {
      valid = subst (All IsToken) (sym e) (All-push IsToken ts t r.valid v);
      range_after = ap (λ (q : Position). q.range) l ∙ range_advanced p (counter_position range bits 0) t r.range_after r.shift_after ∙ sym s.range_is;
      shift_after = ap (λ (q : Position). q.shift) l ∙ shift_advanced p (counter_position range bits 0) t r.range_after r.shift_after ∙ sym s.bits_is;
      few = s.count.few;
    }

-- a checkpoint before the cut is still reached
pub still_recorded : (ts us : List Token) (n : ℕ) (c : WriterCheckpoint) → us ≡ take n ts → n ≤ length ts → reach c ≤ n → IsRecorded ts c → IsRecorded us c
still_recorded ts us n c e l m h =
    rw e record {
      there = omega (arith, length-take-le n ts l);
      recording = subst (λ xs. IsRecording xs c.rng c.backend_var) (sym (take-take (reach c) n ts m)) h.recording;
    }

-- and has the same tokens
pub same_beginning : (ts us : List Token) (n k : ℕ) → us ≡ take n ts → k ≤ n → take k us ≡ take k ts
same_beginning ts us n k e m = ap (take k) e ∙ take-take k n ts m
