-- What a writer has coded, whichever it is.
use Rattle.std.proofs.Common.{◌≡◌, ◌+◌, List, [], ◌++◌, refl, sym, ◌∙◌, ap, arith}
use Rattle.av1_model.specs.Eighths.{eighths}
use Rattle.av1_model.specs.Interval.{Interval, Token, whole}
use Rattle.av1_model.specs.Position.{Position, advance_all, encoder_at}
use Rattle.av1_model.specs.Reading.{Coding}
use Rattle.av1_model.proofs.Positions.{range_advanced_all, shift_advanced_all, fake_advanced_all, advance_all-append}
use Rattle.av1_ec.specs.Rate.{tell_at, tell_frac_at, new_recorder}
use Rattle.av1_ec.specs.Recorder.{tokens_at}
use Rattle.av1_ec.proofs.OneRate.{tokens_recorded}
use Rattle.av1_step.specs.declared.step.TileStep.{TileStep}
use Rattle.av1_step.specs.Tile.{Tile}
use Rattle.av1_step.specs.Script.{after_step, tokens_of}
use Rattle.av1_tile.specs.Coder.{IsNew, HasCoded}
use Rattle.av1_step.proofs.ReadingBack.{encoder_after}

pub coded_none : (start position : Position) → IsNew start → position ≡ start → HasCoded start position whole
coded_none start position new is = record { new = new; tokens = []; stored = is; encoded = refl }

-- its range and its shift are the interval's
pub coded_range : (start position : Position) (i : Interval) → HasCoded start position i → position.range ≡ i.range
coded_range start position i h =
    ap (λ (q : Position). q.range) h.stored ∙ range_advanced_all start (encoder_at whole) h.tokens h.new.0 h.new.1 ∙ ap (λ (q : Position). q.range) h.encoded

pub coded_shift : (start position : Position) (i : Interval) → HasCoded start position i → position.shift ≡ i.shift
coded_shift start position i h =
    ap (λ (q : Position). q.shift) h.stored ∙ shift_advanced_all start (encoder_at whole) h.tokens h.new.0 h.new.1 ∙ ap (λ (q : Position). q.shift) h.encoded

coded_fake : (start position : Position) (i : Interval) → HasCoded start position i → position.fake ≡ 0
coded_fake start position i h = ap (λ (q : Position). q.fake) h.stored ∙ fake_advanced_all start h.tokens ∙ h.new.2

-- so it tells what the interval does
pub told_bits : (start position : Position) (i : Interval) → HasCoded start position i → tell_at position ≡ i.shift + 1
told_bits start position i h = rw (coded_shift start position i h, coded_fake start position i h) (omega arith)

pub told_is : (start position : Position) (i : Interval) → HasCoded start position i → tell_frac_at position ≡ eighths i
told_is start position i h = rw (coded_range start position i h, coded_shift start position i h, coded_fake start position i h) (omega arith)

-- the tokens of a step come after those before
pub coded_after : (start position there : Position) (at : Coding Tile) (step : TileStep) → HasCoded start position at.interval → there ≡ advance_all position (tokens_of step at.context)
    → HasCoded start there (after_step at step).interval
coded_after start position there at step h wrote =
    let us = tokens_of step at.context in
    record {
      new = h.new;
      tokens = h.tokens ++ us;
      stored = wrote ∙ ap (λ (q : Position). advance_all q us) h.stored ∙ sym (advance_all-append start h.tokens us);
      encoded = advance_all-append (encoder_at whole) h.tokens us ∙ ap (λ (q : Position). advance_all q us) h.encoded ∙ encoder_after at step;
    }

pub new_encoder_is : (start : Position) → start ≡ encoder_at whole → IsNew start
new_encoder_is start e = (ap (λ (q : Position). q.range) e, ap (λ (q : Position). q.shift) e, ap (λ (q : Position). q.fake) e)

pub new_recorder_is : (start : Position) → start ≡ new_recorder → IsNew start
new_recorder_is start e = (ap (λ (q : Position). q.range) e, ap (λ (q : Position). q.shift) e, ap (λ (q : Position). q.fake) e)

-- an encoder stands at the interval itself
pub encoder_stands : (start position : Position) (i : Interval) → start ≡ encoder_at whole → HasCoded start position i → position ≡ encoder_at i
encoder_stands start position i e h = h.stored ∙ ap (λ (q : Position). advance_all q h.tokens) e ∙ h.encoded

-- and so does an encoder that got a recorder's tokens
pub replayed_stands : (start position there : Position) (i : Interval) → start ≡ new_recorder → HasCoded start position i → there ≡ advance_all (encoder_at whole) (tokens_at position) → there ≡ encoder_at i
replayed_stands start position there i e h is =
    is ∙ ap (λ (q : Position). advance_all (encoder_at whole) (tokens_at q)) (h.stored ∙ ap (λ (q : Position). advance_all q h.tokens) e)
    ∙ ap (λ (ts : List Token). advance_all (encoder_at whole) ts) (tokens_recorded h.tokens) ∙ h.encoded
