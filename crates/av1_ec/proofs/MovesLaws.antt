-- One move after another.
use Rattle.std.proofs.Common.{◌≡◌, ℕ, ◌+◌, ◌≤◌, List, ap, sym, subst, refl, arith}
use Rattle.av1_cdf.specs.Context.{AreCdfs}
use Rattle.av1_cdf.specs.Log.{KeepsUndone, saves_of}
use Rattle.av1_cdf.specs.declared.log.CDFContextLog.{CDFContextLog}
use Rattle.av1_cdf.proofs.Undoing.{keeps_both as undone_both, keeps_from}
use Rattle.av1_ec.proofs.FlatBits.{keeps_both}
use Rattle.av1_ec.specs.Moves.{Moves}
use Rattle.av1_ec.specs.declared.known.Known.{Ghosts}

pub nothing_saved : (a b : CDFContextLog) (x y : List ℕ) → saves_of b ≡ saves_of a → y ≡ x → KeepsUndone a b x y
nothing_saved a b x y e f = keeps_from a b b x y e (subst (KeepsUndone b b x) (sym f) (record { small = omega arith; large = omega arith; reached = λ c h. h; same = λ c h. refl }))

module _ {W : Type 0} (known : Ghosts W) where
  pub moves_then : (m n k : ℕ) (a b c : W) (la lb lc : CDFContextLog) (fa fb fc : List ℕ) → m + n ≤ k → Moves known m a b la lb fa fb → Moves known n b c lb lc fb fc → Moves known k a c la lc fa fc
  moves_then m n k a b c la lb lc fa fb fc s h g = record {
    cdfs = g.cdfs;
    near = omega (arith, h.near, g.near, s);
    kept = keeps_both known.stored known.IsReached known.position_at a b c h.kept g.kept;
    undone = undone_both la lb lc fa fb fc h.undone g.undone;
  }

-- the same log and context by other names, and a greater bound
module _ {W : Type 0} (known : Ghosts W) where
  pub moves_as : (m k : ℕ) (a b : W) (la lb lb' : CDFContextLog) (fa fb fb' : List ℕ) → lb' ≡ lb → fb' ≡ fb → m ≤ k → Moves known m a b la lb fa fb → Moves known k a b la lb' fa fb'
  moves_as m k a b la lb lb' fa fb fb' f g s h = record {
    cdfs = subst AreCdfs (sym g) h.cdfs;
    near = omega (arith, h.near, s);
    kept = h.kept;
    undone = subst (λ (l : CDFContextLog). KeepsUndone la l fa fb') (sym f) (subst (KeepsUndone la lb fa) (sym g) h.undone);
  }

  -- nothing moves
  pub moves_none : (k : ℕ) (a : W) (la lb : CDFContextLog) (fa fb : List ℕ) → lb ≡ la → fb ≡ fa → AreCdfs fa → Moves known k a a la lb fa fb
  moves_none k a la lb fa fb f g v = record {
    cdfs = subst AreCdfs (sym g) v;
    near = omega arith;
    kept = record { more = omega arith; reached = λ c h. h; same = λ c h. refl };
    undone = nothing_saved la lb fa fb (ap saves_of f) g;
  }
