use Rattle.std.proofs.Common.{ℕ, ◌/◌, refl, ap, ◌∙◌, arith}
use Rattle.av1_blocks.specs.Saved.{saved_of}
use Rattle.av1_step.specs.declared.trial.TrialMark.{TrialMark}
use Rattle.av1_step.specs.State.{tile_of, log_of}
use Rattle.av1_step.proofs.Marking.{marks_tile, marked_back, inside_is}
use Rattle.av1_step.proofs.tile.TileState.mark.Goals as goal

pub save_sb-requires : goal.save_sb-requires
save_sb-requires g c =
    let b = inside_is (tile_of c.args.self.now) c.args.place.0 c.requires in
    record { column = omega (arith, b.0, c.sb_offset.ensures.x); row = omega (arith, b.1, c.sb_offset.ensures.y) }

pub returns : goal.returns
returns g c =
    let t = tile_of c.args.self.now in
    let m : TrialMark = record { place = c.args.place; tell = c.tell_frac.result; writer = c.checkpoint.result; context = c.checkpoint-2.result; blocks = c.in_ok-save_sb.field-0; current = c.args.self.now.current; uv = c.args.self.now.uv; cands = c.copy_of.result; pick = c.args.self.now.pick } in
    record {
      place_is = refl;
      tell_is = c.tell_frac.ensures;
      reached = c.checkpoint.ensures.reached;
      all_stored = c.checkpoint.ensures.reach;
      position = c.checkpoint.ensures.position;
      has_saves = c.checkpoint-2.ensures.reached;
      all_saves = c.checkpoint-2.ensures.last;
      edges = c.checkpoint-2.ensures.edges;
      blocks = c.in_ok-save_sb.ensures ∙ ap (λ (x : ℕ). saved_of (record { x = x; y = c.sb_offset.result.y }) t.bc.blocks) c.sb_offset.ensures.x
          ∙ ap (λ (y : ℕ). saved_of (record { x = c.args.place.0.x / 16; y = y }) t.bc.blocks) c.sb_offset.ensures.y;
      current_is = refl;
      uv_is = refl;
      cands_are = c.copy_of.ensures;
      pick_is = refl;
      of_tile = marks_tile m t c.args.place c.sb_offset.result refl c.checkpoint-2.ensures.edges c.in_ok-save_sb.ensures c.sb_offset.ensures.x c.sb_offset.ensures.y c.args.self.now.kept c.requires;
      back = marked_back m (log_of c.args.self.now) t c.args.place c.sb_offset.result c.checkpoint-2.ensures.edges c.in_ok-save_sb.ensures refl refl c.copy_of.ensures refl (c.checkpoint-2.ensures.context t.numbers) c.args.self.now.kept;
    }
