use Rattle.std.proofs.Common.{◌≤◌, ◌++◌, ◌∷◌, ◌∙◌, [], length, take, get_or, ap, sym, subst, arith}
use Rattle.std.proofs.lemmas.List.{take_all}
use Rattle.av1_mvref.specs.Candidates.{no_vector}
use Rattle.av1_mvref.proofs.Kept.{length_two, kept-none, kept-more}
use Rattle.av1_mvref.proofs.pairs.append.Goals as goal

pub loop-k-init : goal.loop-k-init
loop-k-init c = kept-none c.args.list.now.items c.args.more.now c.requires

pub keep-requires : goal.keep-requires
keep-requires c = subst (λ xs. length xs ≤ 2) (sym c.loop-k.invariant) (length_two (c.args.list.now.items ++ take c.loop-k.k c.args.more.now))

pub loop-k-preserved : goal.loop-k-preserved
loop-k-preserved c =
    c.keep.ensures.items
    ∙ ap (λ xs. take 2 (xs ++ get_or c.args.more.now c.loop-k.k no_vector ∷ [])) c.loop-k.invariant
    ∙ kept-more c.args.list.now.items c.args.more.now c.loop-k.k no_vector (omega arith)

pub returns : goal.returns
returns c = c.loop-k.invariant ∙ ap (λ ys. take 2 (c.args.list.now.items ++ ys)) (take_all c.loop-k.k c.args.more.now (omega arith))
