-- The states after the filter of a unit of loop restoration.
use Rattle.std.proofs.Common.{◌≡◌, ℕ, List, Result, Ok, Err, OnOk, OnErr, nat_eq, set, refl, sym, ap, subst, ◌∙◌, arith}
use Rattle.av1_blocks.specs.declared.block_context.BlockContext.{BlockContext}
use Rattle.av1_cdf.specs.Context.{AreCdfs}
use Rattle.av1_ec.specs.declared.known.Known.{Ghosts}
use Rattle.av1_model.specs.Comes.{Wrote}
use Rattle.av1_syntax.specs.Restoration.{plane_at, renewed}
use Rattle.av1_syntax.specs.declared.restoration.RestorationFilter.{RestorationFilter}
use Rattle.av1_syntax.specs.declared.restoration.RestorationPlane.{RestorationPlane}
use Rattle.av1_syntax.specs.declared.restoration.TileRestorationState.{TileRestorationState}
use Rattle.av1_syntax.specs.Calls.{Moving, coded_in, context_of, learnt_in, stands}
use Rattle.av1_step.specs.declared.tile.TileState.{TileState}
use Rattle.av1_step.specs.declared.step.TileStep.TheVariants.{Lrf}
use Rattle.av1_step.specs.Kept.{IsKept}
use Rattle.av1_step.specs.RestorationSteps.{lrf_kind}
use Rattle.av1_step.specs.State.{tile_of, log_of}
use Rattle.av1_step.specs.Step.{entered}
use Rattle.av1_step.specs.Tile.{Tile, with_numbers}
use Rattle.av1_step.specs.Writing.{Writes}
use Rattle.av1_step.proofs.Arms.{writes_whole, writes_front}
use Rattle.av1_step.proofs.Effects.{numbers_kept}
use Rattle.av1_step.proofs.StepLaws.{IsAllowed, kept_after}

-- the planes after a filter
abbrev pub next_planes : Tile → ℕ → RestorationFilter → List RestorationPlane
next_planes t plane f = set t.rs.planes plane (renewed (nat_eq plane 0) f (plane_at t.rs plane))

-- the tile with these numbers, edges and references
abbrev pub with_rest : Tile → List ℕ → BlockContext → TileRestorationState → Tile
with_rest t fc bc rs = record t { numbers = fc; bc = bc; rs = rs }

pub lrf_entered : (t : Tile) (fc : List ℕ) (bc : BlockContext) (rs : TileRestorationState) (plane : ℕ) (f : RestorationFilter) → bc ≡ t.bc → rs.planes ≡ next_planes t plane f → with_rest t fc bc rs ≡ entered (Lrf plane f) (with_numbers fc t)
lrf_entered t fc bc rs plane f rest renewed =
    ap (λ (c : BlockContext). with_rest t fc c rs) rest
    ∙ ap (λ (ps : List RestorationPlane). record t { numbers = fc; rs = record { planes = ps } }) renewed

pub lrf_refused : (t : Tile) (fc : List ℕ) (bc : BlockContext) (rs : TileRestorationState) → bc ≡ t.bc → rs ≡ t.rs → with_rest t fc bc rs ≡ with_numbers fc t
lrf_refused t fc bc rs rest same =
    ap (λ (c : BlockContext). with_rest t fc c rs) rest
    ∙ ap (λ (r : TileRestorationState). record t { numbers = fc; rs = r }) same

-- in both cases it keeps what every state keeps
pub lrf_kept : {U E : Type 0} (r : Result U E) (t : Tile) (fc : List ℕ) (bc : BlockContext) (rs : TileRestorationState) (plane : ℕ) (f : RestorationFilter) → IsKept t → AreCdfs fc → IsAllowed (Lrf plane f) t → bc ≡ t.bc
    → OnOk r (rs.planes ≡ next_planes t plane f) → OnErr r (rs ≡ t.rs) → IsKept (with_rest t fc bc rs)
lrf_kept (Ok v) t fc bc rs plane f kept cdfs allowed rest renewed refused =
    subst IsKept (sym (lrf_entered t fc bc rs plane f rest renewed)) (kept_after (Lrf plane f) fc t cdfs kept allowed)
lrf_kept (Err e) t fc bc rs plane f kept cdfs allowed rest renewed refused =
    subst IsKept (sym (lrf_refused t fc bc rs rest refused)) (numbers_kept fc t kept)

-- a filter is written, or refused
pub lrf_writes : {W U E : Type 0} (writer : Ghosts W) (r : Result U E) (plane : ℕ) (f : RestorationFilter) (w later : W) (old new : TileState) → IsAllowed (Lrf plane f) (tile_of old)
    → tile_of new ≡ with_rest (tile_of old) (tile_of new).numbers (tile_of new).bc (tile_of new).rs
    → Wrote coded_in learnt_in r (lrf_kind plane (tile_of old)).element.tree f (stands writer w old.cw) (stands writer later new.cw)
    → (tile_of new).bc ≡ (tile_of old).bc → OnOk r ((tile_of new).rs.planes ≡ next_planes (tile_of old) plane f) → OnErr r ((tile_of new).rs ≡ (tile_of old).rs)
    → Moving writer 3835 w later (log_of old) (log_of new) (context_of old.cw) (context_of new.cw) → Writes writer r (Lrf plane f) w later old new
lrf_writes writer (Ok v) plane f w later old new allowed is wrote rest renewed refused moves =
    writes_whole writer (Ok v) v refl (Lrf plane f) (lrf_kind plane (tile_of old)) f w later old new 3835 refl refl allowed wrote
    (is ∙ lrf_entered (tile_of old) (tile_of new).numbers (tile_of new).bc (tile_of new).rs plane f rest renewed) (omega arith) moves
lrf_writes writer (Err e) plane f w later old new allowed is wrote rest renewed refused moves =
    writes_front writer (Err e) e refl (Lrf plane f) (lrf_kind plane (tile_of old)) f w later old new 3835 refl refl allowed wrote
    (is ∙ lrf_refused (tile_of old) (tile_of new).numbers (tile_of new).bc (tile_of new).rs rest refused) (omega arith) moves
