use Rattle.std.proofs.Common.{◌∙◌}
use Rattle.av1_cdf_tests.proofs.log.learn_in_trials.Goals as goal

pub rollback-requires-2 : goal.rollback-requires-2
rollback-requires-2 c =
    let first = c.checkpoint-first.result in
    c.rollback.ensures.reached first (c.checkpoint-second.ensures.last first (c.in_ok-learn.ensures.undone.reached first c.checkpoint-first.ensures.reached))

pub returns : goal.returns
returns c =
    let first = c.checkpoint-first.result in
    let one = c.in_ok-learn.ensures.undone.reached first c.checkpoint-first.ensures.reached in
    let two = c.in_ok-learn-2.ensures.undone.reached first one in
    c.rollback-2.ensures.context
    ∙ c.rollback.ensures.kept first (c.checkpoint-second.ensures.last first one)
    ∙ c.in_ok-learn-3.ensures.undone.same first two
    ∙ c.in_ok-learn-2.ensures.undone.same first one
    ∙ c.in_ok-learn.ensures.undone.same first c.checkpoint-first.ensures.reached
    ∙ c.checkpoint-first.ensures.undone c.args.context.now
