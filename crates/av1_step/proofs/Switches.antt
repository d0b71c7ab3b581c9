-- The switches of a tile's writer: they stay the unit's, and calls by them go the same way as the tile.
use Rattle.std.proofs.Common.{◌≡◌, ℕ, List, [], ◌∷◌, Bool, Result, Ok, Err, refl, ap, subst, ◌∙◌}
use Rattle.av1_cdf.specs.Distribution.{Distribution, coded_by, learnt}
use Rattle.av1_cdf.specs.declared.log.CDFContextLog.{CDFContextLog}
use Rattle.av1_ec.specs.declared.known.Known.{Ghosts}
use Rattle.av1_model.specs.Comes.{Standing, standing, stored, stored_along, Comes, Wrote}
use Rattle.av1_model.specs.Reading.{Fits}
use Rattle.av1_model.specs.Syntax.{Syntax}
use Rattle.av1_model.specs.Syntax.Syntax.{Bad, Done, Ask}
use Rattle.av1_syntax.specs.Calls.{Context, Moving, coded_in, learnt_in}
use Rattle.av1_step.specs.declared.unit.Unit.{Unit}
use Rattle.av1_step.specs.Place.{AreSwitches}

-- after a call
pub switched : {W : Type 0} (known : Ghosts W) (u : Unit) (most : ℕ) (w later : W) (old_log new_log : CDFContextLog) (old new : Context) → Moving known most w later old_log new_log old new → AreSwitches u old.adapt old.eob_by_coded → AreSwitches u new.adapt new.eob_by_coded
switched known u most w later old_log new_log old new h s = record { adapt_is = h.adapt ∙ s.adapt_is; eob_by_coded_is = h.eob_by_coded ∙ s.eob_by_coded_is }

-- the numbers of where a writer and a context stand
abbrev pub numbers_at : Standing Context → Standing (List ℕ)
numbers_at at = standing at.position at.context.numbers

fits_numbers : {A : Type 0} (t : Syntax Distribution A) (ss : List ℕ) (c : Context) → Fits coded_in learnt_in t ss c → Fits coded_by (learnt c.adapt) t ss c.numbers
fits_numbers t [] c h = tt
fits_numbers Bad (s ∷ ss) c h = absurd h
fits_numbers (Done a) (s ∷ ss) c h = absurd h
fits_numbers (Ask q k) (s ∷ ss) c h = (h.0, h.1, fits_numbers (k s) ss (learnt_in c q s) h.2)

along_numbers : {A : Type 0} (t : Syntax Distribution A) (ss : List ℕ) (at : Standing Context) → numbers_at (stored_along coded_in learnt_in t ss at) ≡ stored_along coded_by (learnt at.context.adapt) t ss (numbers_at at)
along_numbers t [] at = refl
along_numbers Bad (s ∷ ss) at = refl
along_numbers (Done a) (s ∷ ss) at = refl
along_numbers (Ask q k) (s ∷ ss) at = along_numbers (k s) ss (stored coded_in learnt_in at q s)

comes_numbers : {A : Type 0} (t u : Syntax Distribution A) (old new : Standing Context) → Comes coded_in learnt_in t u old new → Comes coded_by (learnt old.context.adapt) t u (numbers_at old) (numbers_at new)
comes_numbers t u old new h = record { symbols = h.symbols; follows = h.follows; fits = fits_numbers t h.symbols old.context h.fits; wrote = ap numbers_at h.wrote ∙ along_numbers t h.symbols old }

-- what a call wrote, by whether the tile learns
pub wrote_numbers : {A U E : Type 0} (r : Result U E) (t : Syntax Distribution A) (a : A) (learns : Bool) (old new : Standing Context) → old.context.adapt ≡ learns → Wrote coded_in learnt_in r t a old new → Wrote coded_by (learnt learns) r t a (numbers_at old) (numbers_at new)
wrote_numbers r t a learns old new e h = subst (λ l. Wrote coded_by (learnt l) r t a (numbers_at old) (numbers_at new)) e (by_adapt r h)
  where
    by_adapt : {U E : Type 0} (r : Result U E) → Wrote coded_in learnt_in r t a old new → Wrote coded_by (learnt old.context.adapt) r t a (numbers_at old) (numbers_at new)
    by_adapt (Ok v) h = comes_numbers t (Done a) old new h
    by_adapt (Err e) h = record { left = h.left; comes = comes_numbers t h.left old new h.comes; rest = h.rest; leads = h.leads }
