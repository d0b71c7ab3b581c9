-- What was stored stays while more is stored.
use Rattle.std.proofs.Common.{◌≡◌, ℕ, ◌≤◌, List, [], ◌∷◌, ◌++◌, length, take, ap, subst, sym, refl, ◌∙◌, arith}
use Rattle.std.proofs.lemmas.List.{length-take, take_at, take-take}
use Rattle.av1_model.specs.Interval.{Token}
use Rattle.av1_ec.specs.Checkpoint.{reach, IsBeginning}
use Rattle.av1_ec.specs.Encoder.{weight_of, IsEncoding}
use Rattle.av1_ec.specs.Recorder.{IsRecorded, IsRecording}
use Rattle.av1_ec.specs.declared.storage.WriterCheckpoint.{WriterCheckpoint}

pub longer : {A : Type 0} (old new : List A) → take (length old) new ≡ old → length old ≤ length new
longer old new b = omega (arith, length-take (length old) new, ap length b)

pub same_front : {A : Type 0} (old new : List A) (k : ℕ) → take (length old) new ≡ old → k ≤ length old → take k new ≡ take k old
same_front old new k b l = sym (take-take k (length old) new l) ∙ ap (take k) b

pub pushed : {A : Type 0} (old new : List A) (a : A) → new ≡ old ++ a ∷ [] → take (length old) new ≡ old
pushed old new a e = ap (take (length old)) e ∙ take_at old (a ∷ []) (length old) refl

-- a checkpoint of an encoder whose entries begin with these
pub still_begun : (old new : List ℕ) (c : WriterCheckpoint) → take (length old) new ≡ old → IsBeginning old c → IsBeginning new c
still_begun old new c b h = record {
  there = omega (arith, h.there, longer old new b);
  encoding = subst (λ es. IsEncoding es c.backend_var c.rng (weight_of c.cnt)) (sym (same_front old new (reach c) b h.there)) h.encoding;
}

-- and of a recorder whose tokens do
pub still_there : (old new : List Token) (c : WriterCheckpoint) → take (length old) new ≡ old → IsRecorded old c → IsRecorded new c
still_there old new c b h = record {
  there = omega (arith, h.there, longer old new b);
  recording = subst (λ ts. IsRecording ts c.rng c.backend_var) (sym (same_front old new (reach c) b h.there)) h.recording;
}
