use Rattle.std.proofs.Common.{◌≡◌, ap, arith}
use Rattle.av1_cdf.specs.declared.run.Cell.{Cell}
use Rattle.av1_cdf.specs.declared.run.Run.{Run}
use Rattle.av1_cdf.specs.Runs.{run_at}
use Rattle.av1_cdf.specs.Slots.{cell_of}
use Rattle.av1_cdf.proofs.Cells.{cell_after, cell_around}
use Rattle.av1_cdf.proofs.run.cell_with.Goals as goal

pub overflow_add-before : goal.overflow_add-before
overflow_add-before c = let w = cell_after _ _ _ c.requires.run c.requires.k c.requires.before in record { fits = omega (arith, w.0) }

pub returns-then-k-before-clause-from : goal.returns-then-k-before-clause-from
returns-then-k-before-clause-from c =
    let w = cell_after _ _ _ c.requires.run c.requires.k c.requires.before in
    let e : c.args.before ≡ cell_of c.args.k = w.1 (omega arith) in
    omega (arith, ap (λ (x : Cell). x.place) e, (cell_around c.args.k c.requires.k).0)

pub returns-then-k-before-clause-within : goal.returns-then-k-before-clause-within
returns-then-k-before-clause-within c = (cell_after _ _ _ c.requires.run c.requires.k c.requires.before).0

pub returns-else-k-before-clause-within : goal.returns-else-k-before-clause-within
returns-else-k-before-clause-within c =
    let w = cell_after _ _ _ c.requires.run c.requires.k c.requires.before in
    let here : Cell = record { place = c.args.k; len = (run_at c.args.run).len } in
    let e : here ≡ cell_of c.args.k = w.2 (omega arith) in
    omega (arith, ap (λ (x : Cell). x.place) e, ap (λ (x : Cell). x.len) e, ap (λ (r : Run). r.len) c.run_at.ensures.is, (cell_around c.args.k c.requires.k).2)
