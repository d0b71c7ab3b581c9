use Rattle.std.proofs.Common.{◌≡◌, ◌∙◌, take, ap, arith}
use Rattle.std.specs.Prelude.{flat_map}
use Rattle.av1_mvref.specs.ExtraSearch.{searched, referred, vectors_to, pair_at, with_pairs}
use Rattle.av1_mvref.proofs.Kept.{pairs-take}
use Rattle.av1_mvref.proofs.pairs.add_pairs.Goals as goal

pub returns : goal.returns
returns c =
    let vs = flat_map referred (searched c.args.blocks.now c.args.bo.0 c.args.bsize) in
    let us = vectors_to c.args.sign_bias.now c.args.wanted.first vs in
    let ws = vectors_to c.args.sign_bias.now c.args.wanted.second vs in
    let seconds = c.vectors_to-seconds.result.items in
    let first : c.pair_at-first.result ≡ pair_at us ws 0 =
    c.pair_at-first.ensures ∙ ap (λ f. pair_at f seconds 0) c.vectors_to-firsts.ensures ∙ ap (λ s. pair_at (take 2 us) s 0) c.vectors_to-seconds.ensures ∙ pairs-take us ws 0 (omega arith) in
    let second : c.pair_at-second.result ≡ pair_at us ws 1 =
    c.pair_at-second.ensures ∙ ap (λ f. pair_at f seconds 1) c.vectors_to-firsts.ensures ∙ ap (λ s. pair_at (take 2 us) s 1) c.vectors_to-seconds.ensures ∙ pairs-take us ws 1 (omega arith) in
    c.add_two.ensures ∙ ap (λ p. with_pairs p c.pair_at-second.result c.args.stack.now.items) first ∙ ap (λ q. with_pairs (pair_at us ws 0) q c.args.stack.now.items) second
