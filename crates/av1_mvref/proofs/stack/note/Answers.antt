use Rattle.std.proofs.Common.{◌∙◌, get_or, set, length, ap, sym, arith, length-set}
use Rattle.arrayvec.proofs.ArrayVecLemmas.{items-with_items}
use Rattle.av1_mvref.specs.declared.candidate.CandidateMV.{CandidateMV}
use Rattle.av1_mvref.specs.Candidates.{no_vector}
use Rattle.av1_mvref.proofs.Noting.{heavier, noted-there, noted-room, noted-full, heaviest-at}
use Rattle.av1_mvref.proofs.stack.note.Goals as goal

abbrev zero : CandidateMV
zero = record { this_mv = no_vector; comp_mv = no_vector; weight = 0 }

pub overflow_add-items : goal.overflow_add-items
overflow_add-items c =
    let light = heaviest-at c.args.stack.now.items c.place_of-k.result zero (omega arith) in
    rw c.as_mut_slice-items.ensures.value (omega arith)

pub returns-then-k-len : goal.returns-then-k-len
returns-then-k-len c =
    let first = rw c.as_slice.ensures.value at c.place_of-k.ensures.value in
    let xs = c.args.stack.now.items in
    let k = c.place_of-k.result in
    items-with_items c.args.stack.now _ (ap length (ap (λ ys. set ys k (heavier c.args.seen (get_or ys k zero))) c.as_mut_slice-items.ensures.value) ∙ length-set xs k _)
    ∙ ap (λ ys. set ys k (heavier c.args.seen (get_or ys k zero))) c.as_mut_slice-items.ensures.value
    ∙ sym (noted-there 8 xs k c.args.seen zero (omega arith) (omega arith) (λ j h. first.0 j zero (omega arith) h) (first.1 (omega arith) zero))

pub returns-then-len-lt8 : goal.returns-then-len-lt8
returns-then-len-lt8 c =
    let first = rw c.as_slice.ensures.value at c.place_of-k.ensures.value in
    c.push.ensures.items ∙ sym (noted-room 8 c.args.stack.now.items c.args.seen zero (omega arith) (λ j h. first.0 j zero (omega arith) (omega arith)))

pub returns-else-len-lt8 : goal.returns-else-len-lt8
returns-else-len-lt8 c =
    let first = rw c.as_slice.ensures.value at c.place_of-k.ensures.value in
    sym (noted-full 8 c.args.stack.now.items c.args.seen zero (omega arith) (λ j h. first.0 j zero (omega arith) (omega arith)))
