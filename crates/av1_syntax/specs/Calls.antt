-- What every write call says: which way the writer and the context went, and what they keep.
use Rattle.std.specs.Prelude.{◌≡◌, ℕ, ◌+◌, ◌≤◌, List, Bool, false, Result, take}
use Rattle.av1_cdf.specs.Context.{AreCdfs}
use Rattle.av1_cdf.specs.Distribution.{Distribution, coded_by, learnt}
use Rattle.av1_cdf.specs.Distribution.Distribution.{Adaptive}
use Rattle.av1_cdf.specs.Layout.{slot}
use Rattle.av1_cdf.specs.Log.{KeepsUndone, saves_of, small_saves, large_saves}
use Rattle.av1_cdf.specs.declared.log.CDFContextCheckpoint.{CDFContextCheckpoint}
use Rattle.av1_cdf.specs.declared.log.CDFContextLog.{CDFContextLog}
use Rattle.av1_cdf.specs.declared.part.Save.{Save}
use Rattle.av1_ec.specs.Storing.{Keeps}
use Rattle.av1_ec.specs.declared.known.Known.{Ghosts}
use Rattle.av1_model.specs.Comes.{Standing, standing, Wrote}
use Rattle.av1_model.specs.Element.{Element}
use Rattle.av1_syntax.specs.declared.context_writer.ContextWriter.{ContextWriter}

-- what calls code by: the numbers of the adaptive distributions, whether they learn, and whether the class of an end goes by the
-- coded size
pub record Context : Type 0 where
  pub numbers : List ℕ
  pub adapt : Bool
  pub eob_by_coded : Bool

-- what codes a symbol, and what is coded by after it: the numbers of its distribution change where they learn, and nothing else
abbrev pub coded_in : Context → Distribution → List ℕ
coded_in c q = coded_by c.numbers q

abbrev pub learnt_in : Context → Distribution → ℕ → Context
learnt_in c q symbol = record c { numbers = learnt c.adapt c.numbers q symbol }

abbrev pub context_of : ContextWriter → Context
context_of cw = record { numbers = cw.fc; adapt = cw.adapt; eob_by_coded = cw.eob_by_coded }

-- where a writer and the context stand
abbrev pub stands : {W : Type 0} → Ghosts W → W → ContextWriter → Standing Context
stands known w cw = standing (known.position w) (context_of cw)

-- they went the path of a value of a syntax element, or the beginning of it where the call was refused
abbrev pub Coded : {W A U E : Type 0} → Ghosts W → Result U E → Element Distribution A → A → W → W → ContextWriter → ContextWriter → Type 0
Coded known r e a w u old new = Wrote coded_in learnt_in r e.tree a (stands known w old) (stands known u new)

-- valid distributions, at most so many bits more, and each checkpoint stands for what it stood for; both switches stay, and where
-- nothing is learnt, nothing is logged
pub record Moving {W : Type 0} (known : Ghosts W) (most : ℕ) (w u : W) (old_log new_log : CDFContextLog) (old new : Context) : Type 0 where
  pub cdfs : AreCdfs new.numbers
  pub near : (known.position u).shift ≤ (known.position w).shift + most
  pub kept : Keeps known w u
  pub undone : KeepsUndone old_log new_log old.numbers new.numbers
  pub adapt : new.adapt ≡ old.adapt
  pub eob_by_coded : new.eob_by_coded ≡ old.eob_by_coded
  pub unlogged : old.adapt ≡ false → saves_of new_log ≡ saves_of old_log

abbrev pub Moved : {W : Type 0} → Ghosts W → ℕ → W → W → ContextWriter → ContextWriter → Type 0
Moved known most w u old new = Moving known most w u old.fc_log new.fc_log (context_of old) (context_of new)

-- the saves of a log up to a checkpoint
abbrev pub saves_before : CDFContextLog → CDFContextCheckpoint → List (Save 4) × List (Save 16)
saves_before log c = (take c.small (small_saves log), take c.large (large_saves log))

-- the distribution of a field of the context, at these indices
abbrev pub adaptive : List ℕ → List ℕ → Distribution
adaptive name indices = Adaptive (slot name indices)
