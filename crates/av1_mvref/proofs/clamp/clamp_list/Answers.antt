use Rattle.std.proofs.Common.{◌∙◌, length, map, ap}
use Rattle.std.proofs.lemmas.List.{length-map}
use Rattle.arrayvec.proofs.ArrayVecLemmas.{items-with_items}
use Rattle.av1_mvref.specs.Candidates.{clamped}
use Rattle.av1_mvref.proofs.clamp.clamp_list.Goals as goal

pub returns : goal.returns
returns c =
    let f = clamped c.args.blocks.now c.args.bo.0 c.args.bsize in
    let made = c.clamp_all.ensures ∙ ap (map f) c.as_mut_slice.ensures.value in
    items-with_items c.args.list.now _ (ap length made ∙ length-map c.args.list.now.items f) ∙ made
