use Rattle.std.proofs.Common.{◌≡◌, ◌<◌, ◌≤◌, ◌||◌, ◌∙◌, ◌%◌, arith, ap, sym, subst}
use Rattle.av1_blocks.specs.Sound.{IsSound}
use Rattle.av1_mvref.specs.Neighbours.{edge, shown, steps}
use Rattle.av1_mvref.proofs.PartWay.{part_way-next, part_way-end}
use Rattle.av1_mvref.proofs.Lines.{place_inside, sound_at, steps-even, steps-positive}
use Rattle.av1_mvref.proofs.scan.scan_line.Goals.{then-found, else-found}
use Rattle.av1_mvref.proofs.scan.scan_line.Goals as goal

pub loop-i-preserved : goal.loop-i-preserved
loop-i-preserved c =
    let to = c.args.beside.to in
    let g = c.args.blocks.now in
    let bo = c.args.beside.bo.0 in
    let size = c.args.beside.bsize in
    let d = c.args.distance in
    let i = c.loop-i.i in
    let inv = c.loop-i.invariant in
    let l : i < shown (edge to g bo size) = omega arith in
    let near : d ≤ (edge to g bo size).y = omega arith in
    let inside = place_inside to g bo size d i c.requires.ready c.requires.inside c.requires.even l inv.even in
    let sound : IsSound c.block_at-block.result.now = subst IsSound (sym c.block_at-block.ensures) (sound_at to g bo size d i c.requires.ready c.requires.inside c.requires.near near inside) in
    let even = λ (k : 1 < d). subst (λ n. n % 2 ≡ 0) (sym c.steps-i.ensures.value) (steps-even to g bo size d c.block_at-block.result.now sound k) in
    let found : c.if-found.found ≡ (c.loop-i.found || c.visit-here.result) = elim c.if-found.branch [
      | then-found w ↦ w.found-is ∙ w.if-found.true ∙ sym (ap (λ v. v || c.visit-here.result) w.if-found.true)
      | else-found w ↦ w.found-is ∙ sym (ap (λ v. v || c.visit-here.result) w.if-found.false)
    ] in
    part_way-next c.args.wanted (edge to g bo size) d c.args.stack.now.items c.args.done.now c.args.new.now c.loop-i.stack.items c.loop-i.found c.loop-i.new c.loop-i.done i
    c.block_at-block.result.now c.visit-here.new.stack.items c.if-found.found c.visit-here.new.new c.visit-here.new.done c.steps-i.result
    c.block_at-block.ensures c.visit-here.ensures.items (found ∙ ap (λ v. c.loop-i.found || v) c.visit-here.ensures.found) c.visit-here.ensures.new c.visit-here.ensures.lines c.steps-i.ensures.value
    inv (λ j k. steps-positive to g bo size d j c.requires.ready c.requires.inside c.requires.near near k) l even c.visit-here.ensures.light c.steps-i.ensures.bound

pub loop-i-smaller : goal.loop-i-smaller
loop-i-smaller c =
    let to = c.args.beside.to in
    let g = c.args.blocks.now in
    let bo = c.args.beside.bo.0 in
    let size = c.args.beside.bsize in
    let d = c.args.distance in
    let l : c.loop-i.i < shown (edge to g bo size) = omega arith in
    let near : d ≤ (edge to g bo size).y = omega arith in
    let one = steps-positive to g bo size d c.loop-i.i c.requires.ready c.requires.inside c.requires.near near l in
    let far : 1 ≤ c.steps-i.result = subst (λ m. 1 ≤ m) (ap (steps (edge to g bo size) d) (sym c.block_at-block.ensures) ∙ sym c.steps-i.ensures.value) one in
    omega arith

pub returns-clause-items : goal.returns-clause-items
returns-clause-items c = (part_way-end _ _ _ _ _ _ _ _ _ _ c.loop-i.i c.loop-i.invariant (omega arith)).items

pub returns-clause-found : goal.returns-clause-found
returns-clause-found c = (part_way-end _ _ _ _ _ _ _ _ _ _ c.loop-i.i c.loop-i.invariant (omega arith)).matched

pub returns-clause-lines : goal.returns-clause-lines
returns-clause-lines c = (part_way-end _ _ _ _ _ _ _ _ _ _ c.loop-i.i c.loop-i.invariant (omega arith)).lines

pub returns-clause-new : goal.returns-clause-new
returns-clause-new c = (part_way-end _ _ _ _ _ _ _ _ _ _ c.loop-i.i c.loop-i.invariant (omega arith)).news
