-- What a mark of now has.
use Rattle.std.proofs.Common.{◌≡◌, ℕ, ◌*◌, ◌/◌, ◌<◌, true, List, Option, refl, sym, ap, subst, ◌∙◌, arith}
use Rattle.av1_blocks.specs.declared.block_context.BlockContext.{BlockContext}
use Rattle.av1_blocks.specs.declared.checkpoint.BlockContextCheckpoint.{BlockContextCheckpoint}
use Rattle.av1_blocks.specs.Edges.{taken}
use Rattle.av1_blocks.specs.GoingBack.{gone_back}
use Rattle.av1_blocks.specs.Places.{sb_column}
use Rattle.av1_blocks.specs.Saved.{Saved, saved_of, IsSavedOf}
use Rattle.av1_blocks.proofs.GivenBack.{gives_back}
use Rattle.av1_cdf.specs.Log.{undone}
use Rattle.av1_cdf.specs.declared.log.CDFContextLog.{CDFContextLog}
use Rattle.av1_geometry.specs.declared.block_offset.BlockOffset.{BlockOffset}
use Rattle.av1_geometry.specs.declared.block_offset.TileBlockOffset.{TileBlockOffset}
use Rattle.av1_geometry.specs.declared.superblock_offset.SuperBlockOffset.{SuperBlockOffset}
use Rattle.av1_mvref.specs.ExtraSearch.{Candidates}
use Rattle.av1_step.specs.declared.trial.TrialMark.{TrialMark}
use Rattle.av1_step.specs.Mark.{back_to, IsOfTile}
use Rattle.av1_step.specs.Kept.{IsKept}
use Rattle.av1_step.specs.Place.{candidates_in}
use Rattle.av1_step.specs.Tile.{Tile, CurrentBlock, is_inside, sampling}
use Rattle.av1_step.proofs.Places.{both}
use Rattle.av1_step.proofs.Ready.{is_paired}
use Rattle.av1_step.proofs.StepLaws.{is_below}

pub inside_is : (t : Tile) (bo : BlockOffset) → is_inside t bo ≡ true → (bo.x < t.bc.blocks.cols) × (bo.y < t.bc.blocks.rows)
inside_is t bo h = let b = both _ _ h in (is_below _ _ b.0, is_below _ _ b.1)

pub marks_tile : (m : TrialMark) (t : Tile) (place : TileBlockOffset) (sb : SuperBlockOffset) → m.place ≡ place → m.context.bc ≡ taken place.0 (sampling t) t.bc → m.blocks ≡ saved_of sb t.bc.blocks → sb.x ≡ place.0.x / 16 → sb.y ≡ place.0.y / 16 → IsKept t → is_inside t place.0 ≡ true → IsOfTile m t
marks_tile m t place sb at edges blocks x y kept inside =
    let b = inside_is t place.0 inside in
    let few = (is_paired t kept).few in
    let column : sb_column m.context.bc.x ≡ 16 * (m.place.0.x / 16) =
    ap (λ (c : BlockContextCheckpoint). sb_column c.x) edges ∙ (let e : sb_column (sb_column place.0.x) ≡ 16 * (place.0.x / 16) = omega (arith, b.0, few) in e) ∙ ap (λ (q : TileBlockOffset). 16 * (q.0.x / 16)) (sym at) in
    record {
      column = column;
      sampling_is = ap (λ (c : BlockContextCheckpoint). c.chroma_sampling) edges;
      place = ap (λ (s : Saved). s.place) blocks ∙ ap (λ n. record { x = 16 * n; y = 16 * sb.y }) x ∙ ap (λ n. record { x = 16 * (place.0.x / 16); y = 16 * n }) y
          ∙ ap (λ (q : TileBlockOffset). record { x = 16 * (q.0.x / 16); y = 16 * (q.0.y / 16) }) (sym at);
      blocks = subst (IsSavedOf t.bc.blocks) (sym blocks) (record { x = refl; y = refl; cols = refl; rows = refl });
    }

pub marked_back : (m : TrialMark) (log : CDFContextLog) (t : Tile) (place : TileBlockOffset) (sb : SuperBlockOffset) → m.context.bc ≡ taken place.0 (sampling t) t.bc → m.blocks ≡ saved_of sb t.bc.blocks → m.current ≡ t.current → m.uv ≡ t.uv → candidates_in m.cands ≡ t.cands → m.pick ≡ t.pick →
    undone log t.numbers m.context.fc ≡ t.numbers → IsKept t → back_to m log t ≡ t
marked_back m log t place sb edges blocks current uv cands pick numbers kept =
    let bc : gone_back m.context.bc m.blocks t.bc ≡ t.bc =
    ap (λ (c : BlockContextCheckpoint). gone_back c m.blocks t.bc) edges ∙ ap (λ (s : Saved). gone_back (taken place.0 (sampling t) t.bc) s t.bc) blocks ∙ gives_back place.0 (sampling t) sb t.bc kept.edges in
    ap (λ (ns : List ℕ). record t { numbers = ns; bc = gone_back m.context.bc m.blocks t.bc; current = m.current; uv = m.uv; cands = candidates_in m.cands; pick = m.pick }) numbers
    ∙ ap (λ (x : BlockContext). record t { bc = x; current = m.current; uv = m.uv; cands = candidates_in m.cands; pick = m.pick }) bc
    ∙ ap (λ (o : Option CurrentBlock). record t { current = o; uv = m.uv; cands = candidates_in m.cands; pick = m.pick }) current
    ∙ ap (λ o. record t { uv = o; cands = candidates_in m.cands; pick = m.pick }) uv
    ∙ ap (λ (o : Option Candidates). record t { cands = o; pick = m.pick }) cands
    ∙ ap (λ n. record t { pick = n }) pick
