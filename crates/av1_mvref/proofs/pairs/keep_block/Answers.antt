use Rattle.std.proofs.Common.{◌∙◌, ◌++◌, take, ap}
use Rattle.av1_mvref.specs.ExtraSearch.{referred_in, to_same, to_others}
use Rattle.av1_mvref.proofs.Kept.{kept-twice, kept_others-twice}
use Rattle.av1_mvref.proofs.pairs.keep_block.Goals as goal

pub returns-clause-same : goal.returns-clause-same
returns-clause-same c =
    let b = c.args.block.now in
    c.keep_vector-2.ensures.same ∙ ap (λ xs. take 2 (xs ++ to_same c.args.to (referred_in b 1))) c.keep_vector.ensures.same
    ∙ kept-twice c.args.to c.args.same.now.items (referred_in b 0) (referred_in b 1)

pub returns-clause-others : goal.returns-clause-others
returns-clause-others c =
    let b = c.args.block.now in
    c.keep_vector-2.ensures.others ∙ ap (λ xs. take 2 (xs ++ to_others c.args.sign_bias.now c.args.to (referred_in b 1))) c.keep_vector.ensures.others
    ∙ kept_others-twice c.args.sign_bias.now c.args.to c.args.others.now.items (referred_in b 0) (referred_in b 1)
