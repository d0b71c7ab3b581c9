use Rattle.std.proofs.Common.{[], ◌∷◌, ◌||◌, sym, arith}
use Rattle.av1_cdf.specs.Layout.{size_of_context}
use Rattle.av1_cdf.specs.Tables.{is_coefficient, same_at, sets_agree}
use Rattle.av1_cdf.proofs.Tested.{all_hold, one_fails}
use Rattle.av1_cdf.proofs.tables.agree.Goals as goal

pub returns-then-not-agree_at : goal.returns-then-not-agree_at
unfolding sets_agree
returns-then-not-agree_at c =
    let sets = c.args.a.now ∷ c.args.b.now ∷ c.args.c.now ∷ c.args.d.now ∷ [] in
    one_fails (λ k. is_coefficient k || same_at sets k) size_of_context c.loop-k.k (omega arith) (sym c.if-not-agree_at.ensures)

pub returns : goal.returns
unfolding sets_agree
returns c =
    let sets = c.args.a.now ∷ c.args.b.now ∷ c.args.c.now ∷ c.args.d.now ∷ [] in
    all_hold (λ k. is_coefficient k || same_at sets k) size_of_context (λ k h. c.loop-k.invariant k (omega arith))
