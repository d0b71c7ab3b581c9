use Rattle.std.proofs.Common.{◌-◌, ◌≡◌, ap, arith, length}
use Rattle.std.proofs.lemmas.List.FromFn.{fill_by_all}
use Rattle.av1_cdf.specs.Context.{uniform_number, uniform_numbers, even}
use Rattle.av1_cdf.specs.declared.run.Cell.{Cell}
use Rattle.av1_cdf.proofs.Cells.{first_run, has_after, before_first, before_next}
use Rattle.av1_cdf.proofs.Written.{written_more}
use Rattle.av1_cdf.proofs.cdf_context.write_uniform.Goals as goal

pub loop-k-init : goal.loop-k-init
loop-k-init c = record { run = first_run; cell = before_first; written = λ j h. absurd (omega arith) }

pub loop-k-preserved : goal.loop-k-preserved
loop-k-preserved c = record {
  run = has_after _ _ c.run_with-run.ensures;
  cell = before_next _ _ c.cell_with-cell.ensures.is;
  written = written_more uniform_number _ _ _ (omega arith) c.loop-k.invariant.written
      (ap (λ (x : Cell). even x.len (c.loop-k.k - x.place)) c.cell_with-cell.ensures.is);
}

pub returns : goal.returns
unfolding uniform_numbers
returns c =
    let n : length c.loop-k.numbers ≡ 5528 = omega arith in
    fill_by_all uniform_number c.loop-k.numbers 5528 0 n (λ k h. c.loop-k.invariant.written k (omega arith))
