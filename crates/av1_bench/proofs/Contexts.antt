-- A context and its log, after a symbol was coded or memory ran out.
use Rattle.std.proofs.Common.{◌≡◌, ℕ, List, IsTrue, length, sym, ◌∙◌, ap, subst, drop, arith, Result, Ok, Err, OnOk, OnErr}
use Rattle.av1_cdf.specs.declared.log.CDFContextCheckpoint.{CDFContextCheckpoint}
use Rattle.av1_cdf.specs.declared.log.CDFContextLog.{CDFContextLog}
use Rattle.av1_cdf.specs.declared.part.Save.{Save}
use Rattle.av1_cdf.specs.Context.{AreCdfs, contents, with_contents}
use Rattle.av1_cdf.specs.Layout.{Slot, is_slot}
use Rattle.av1_cdf.specs.Log.{saves_of, IsReached, undone, KeepsUndone}
use Rattle.av1_cdf.specs.Part.{undone_part}
use Rattle.av1_cdf.proofs.Learning.{cdfs_adapted}
use Rattle.av1_model.specs.Cdf.{adapt}

-- whether it learned or memory ran out, a context is valid
pub cdfs_after : {T E : Type 0} (r : Result T E) (old new : List ℕ) (s : Slot) (symbol : ℕ) → AreCdfs old → IsTrue (is_slot s.place s.len)
    → OnOk r (new ≡ with_contents old s (adapt (contents old s) symbol)) → OnErr r (new ≡ old) → AreCdfs new
cdfs_after (Ok x) old new s symbol v h ok err = subst AreCdfs (sym ok) (cdfs_adapted old s symbol v h)
cdfs_after (Err x) old new s symbol v h ok err = subst AreCdfs (sym err) v

-- and what the log reaches, it still reaches
pub reached_after : {T E : Type 0} (r : Result T E) (old new : CDFContextLog) (before after : List ℕ) (c : CDFContextCheckpoint) → IsReached old c
    → OnOk r (KeepsUndone old new before after) → OnErr r (saves_of new ≡ saves_of old) → IsReached new c
reached_after (Ok x) old new before after c h ok err = ok.reached c h
reached_after (Err x) old new before after c h ok err =
    let small = ap (λ (x : List (Save 4) × List (Save 16)). length x.0) err in
    let large = ap (λ (x : List (Save 4) × List (Save 16)). length x.1) err in
    (omega (arith, h.0, small), omega (arith, h.1, large))

-- for the context that it stood for
pub undone_after : {T E : Type 0} (r : Result T E) (old new : CDFContextLog) (before after : List ℕ) (c : CDFContextCheckpoint) → IsReached old c → AreCdfs (undone old before c)
    → OnOk r (KeepsUndone old new before after) → OnErr r (saves_of new ≡ saves_of old) → OnErr r (after ≡ before) → AreCdfs (undone new after c)
undone_after (Ok x) old new before after c h v ok err same = subst AreCdfs (sym (ok.same c h)) v
undone_after (Err x) old new before after c h v ok err same =
    subst AreCdfs (ap (λ (context : List ℕ). undone old context c) (sym same) ∙ ap (λ (saves : List (Save 4) × List (Save 16)). undone_part 16 (drop c.large saves.1) (undone_part 4 (drop c.small saves.0) after)) (sym err)) v
