use Rattle.std.proofs.Common.{◌≡◌, sym, true, below_more, arith}
use Rattle.av1_cdf.specs.Layout.{size_of_context}
use Rattle.av1_cdf.specs.Tables.{number_fits, valid_set}
use Rattle.av1_cdf.proofs.Cells.{first_run, has_after, before_first, before_next}
use Rattle.av1_cdf.proofs.Tested.{all_hold, one_fails}
use Rattle.av1_cdf.proofs.tables.is_valid.Goals as goal

pub loop-k-init : goal.loop-k-init
loop-k-init c = record { run = first_run; cell = before_first; fit = λ j h. absurd (omega arith) }

pub loop-k-preserved : goal.loop-k-preserved
loop-k-preserved c = record {
  run = has_after _ _ c.run_with-run.ensures;
  cell = before_next _ _ c.cell_with-cell.ensures.is;
  fit = below_more (λ j. number_fits c.args.set.now j ≡ true) _ c.loop-k.invariant.fit (sym c.if-not-number_fits.ensures);
}

pub returns-then-not-number_fits : goal.returns-then-not-number_fits
unfolding valid_set
returns-then-not-number_fits c = one_fails (number_fits c.args.set.now) size_of_context c.loop-k.k (omega arith) (sym c.if-not-number_fits.ensures)

pub returns : goal.returns
unfolding valid_set
returns c = all_hold (number_fits c.args.set.now) size_of_context (λ k h. c.loop-k.invariant.fit k (omega arith))
