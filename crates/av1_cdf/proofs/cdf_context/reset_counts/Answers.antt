use Rattle.std.proofs.Common.{ℕ, ◌≡◌, arith, get_or, length, refl, ◌∙◌, ap}
use Rattle.std.proofs.lemmas.List.FromFn.{fill_by_all}
use Rattle.std.specs.Prelude.{if◌then◌else◌}
use Rattle.std.specs.List.{range_with_len}
use Rattle.std.proofs.Common.{map}
use Rattle.av1_cdf.specs.Context.{is_count, with_counts_reset}
use Rattle.av1_cdf.proofs.Cells.{first_run, before_first}
use Rattle.av1_cdf.proofs.cdf_context.reset_counts.Goals as goal

pub loop-k-init : goal.loop-k-init
loop-k-init c = record { run = first_run; cell = before_first; written = λ j h. absurd (omega arith); rest = λ j h. refl }

pub returns : goal.returns
unfolding with_counts_reset
returns c =
    let old = c.args.numbers.now in
    let f : ℕ → ℕ = λ k. if is_count k then 0 else get_or old k 0 in
    let n : length c.loop-k.numbers ≡ 5528 = omega arith in
    let m : 5528 ≡ length old = omega arith in
    fill_by_all f c.loop-k.numbers 5528 0 n (λ k h. c.loop-k.invariant.written k (omega arith))
    ∙ ap (λ l. map f (range_with_len 0 l)) m
