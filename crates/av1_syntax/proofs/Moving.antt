-- One move of a writer and a context after another.
use Rattle.std.proofs.Common.{ℕ, ◌+◌, ◌≤◌, refl, ◌∙◌, arith}
use Rattle.av1_cdf.specs.Context.{AreCdfs}
use Rattle.av1_cdf.specs.declared.log.CDFContextLog.{CDFContextLog}
use Rattle.av1_cdf.proofs.Undoing.{keeps_both as undone_both}
use Rattle.av1_ec.specs.Moves.{Moves}
use Rattle.av1_ec.specs.declared.known.Known.{Ghosts}
use Rattle.av1_ec.proofs.FlatBits.{keeps_both}
use Rattle.av1_ec.proofs.MovesLaws.{nothing_saved}
use Rattle.av1_syntax.specs.Calls.{Context, Moving}

module _ {W : Type 0} (known : Ghosts W) where
  pub moves_then : (m n k : ℕ) (a b c : W) (la lb lc : CDFContextLog) (old mid new : Context) → m + n ≤ k → Moving known m a b la lb old mid → Moving known n b c lb lc mid new → Moving known k a c la lc old new
  moves_then m n k a b c la lb lc old mid new s h g = record {
    cdfs = g.cdfs;
    near = omega (arith, h.near, g.near, s);
    kept = keeps_both known.stored known.IsReached known.position_at a b c h.kept g.kept;
    undone = undone_both la lb lc old.numbers mid.numbers new.numbers h.undone g.undone;
    adapt = g.adapt ∙ h.adapt;
    eob_by_coded = g.eob_by_coded ∙ h.eob_by_coded;
    unlogged = λ off. g.unlogged (h.adapt ∙ off) ∙ h.unlogged off;
  }

  -- with a greater bound
  pub moves_as : (m k : ℕ) (a b : W) (la lb : CDFContextLog) (old new : Context) → m ≤ k → Moving known m a b la lb old new → Moving known k a b la lb old new
  moves_as m k a b la lb old new s h = record {
    cdfs = h.cdfs;
    near = omega (arith, h.near, s);
    kept = h.kept;
    undone = h.undone;
    adapt = h.adapt;
    eob_by_coded = h.eob_by_coded;
    unlogged = h.unlogged;
  }

  -- nothing moves
  pub moves_none : (k : ℕ) (a : W) (log : CDFContextLog) (at : Context) → AreCdfs at.numbers → Moving known k a a log log at at
  moves_none k a log at v = record {
    cdfs = v;
    near = omega arith;
    kept = record { more = omega arith; reached = λ c h. h; same = λ c h. refl };
    undone = nothing_saved log log at.numbers at.numbers refl refl;
    adapt = refl;
    eob_by_coded = refl;
    unlogged = λ off. refl;
  }

  -- what a log and its numbers keep
  pub moves_of : (m : ℕ) (a b : W) (la lb : CDFContextLog) (old new : Context) → Moving known m a b la lb old new → Moves known m a b la lb old.numbers new.numbers
  moves_of m a b la lb old new h = record { cdfs = h.cdfs; near = h.near; kept = h.kept; undone = h.undone }
