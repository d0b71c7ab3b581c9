use Rattle.std.proofs.Common.{◌≡◌, ℕ, List, sym, ap, subst, ◌∙◌, arith}
use Rattle.av1_cdf.specs.Context.{AreCdfs, contents, with_contents}
use Rattle.av1_cdf.specs.Slots.{slot_of}
use Rattle.av1_cdf.proofs.Cells.{slot_within}
use Rattle.av1_cdf.proofs.Undoing.{keeps_from}
use Rattle.av1_model.specs.Cdf.{IsCdf, adapt}
use Rattle.av1_cdf_tests.proofs.log.learn.Goals as goal

pub update_cdf-requires-clause-cdf : goal.update_cdf-requires-clause-cdf
update_cdf-requires-clause-cdf c =
    subst (λ (xs : List ℕ). IsCdf xs) (sym c.push.ensures.value) (c.requires.cdfs.valid (slot_of c.args.cdf) c.args.cdf.is_slot)

pub update_cdf-requires-clause-val : goal.update_cdf-requires-clause-val
update_cdf-requires-clause-val c = omega (arith, c.push.ensures.len, (slot_within c.args.cdf.place c.args.cdf.len c.args.cdf.is_slot).1)

pub returns-clause-cdfs : goal.returns-clause-cdfs
returns-clause-cdfs c =
    let slot = slot_of c.args.cdf in
    let learnt : c.update_cdf.new.cdf ≡ adapt (contents c.args.context.now slot) 1 = c.update_cdf.ensures.adapted ∙ ap (λ (xs : List ℕ). adapt xs 1) c.push.ensures.value in
    subst (λ (ws : List ℕ). AreCdfs (with_contents c.args.context.now slot ws)) (sym learnt) (c.law_of_learning.ensures c.args.context.now slot 1 c.requires.cdfs c.args.cdf.is_slot)

pub returns-clause-undone : goal.returns-clause-undone
returns-clause-undone c =
    keeps_from c.args.log.now c.ready.new.self c.push.new.log c.args.context.now _ c.in_ok-ready.ensures.same (c.push.ensures.saved c.update_cdf.new.cdf)
