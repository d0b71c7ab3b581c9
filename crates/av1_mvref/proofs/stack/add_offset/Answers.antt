use Rattle.std.proofs.Common.{◌∙◌, length, map, ap}
use Rattle.std.proofs.lemmas.List.{length-map}
use Rattle.arrayvec.proofs.ArrayVecLemmas.{items-with_items}
use Rattle.av1_mvref.specs.Noted.{nearer}
use Rattle.av1_mvref.proofs.stack.add_offset.Goals as goal

pub returns : goal.returns
returns c =
    let made = c.raise_all.ensures ∙ ap (map nearer) c.as_mut_slice.ensures.value in
    items-with_items c.args.stack.now _ (ap length made ∙ length-map c.args.stack.now.items nearer) ∙ made
