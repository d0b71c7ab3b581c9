use Rattle.std.proofs.Common.{◌≡◌, ◌+◌, ◌<◌, ◌≤◌, ◌∙◌, nat_eq, map, unsigned_abs, if◌then◌else◌, ap, sym, subst, arith}
use Rattle.std.proofs.lemmas.List.{length-map}
use Rattle.av1_cdf.specs.Distribution.Distribution.{Adaptive}
use Rattle.av1_cdf.specs.Slots.{slot_of}
use Rattle.av1_coef.specs.Contexts.{coded_area}
use Rattle.av1_syntax.specs.Calls.{stands}
use Rattle.av1_syntax.specs.Coefficients.{value_at}
use Rattle.av1_syntax.proofs.CoeffKnown.{long}
use Rattle.av1_syntax.proofs.CoeffSteps.{lowest, inside, context_few, context_from, context_to, context_is, least_size, level_back, size_coded}
use Rattle.av1_syntax.proofs.context_writer.ContextWriter.write_coeff_at.Goals as goal

pub bounds-scan-c : goal.bounds-scan-c
bounds-scan-c g c =
    let values = map g.T.Coefficient.value c.args.coeffs.now in
    omega (arith, c.requires.place, long c.args.block.tx_size c.args.block.tx_class c.args.scan.now c.args.eob values c.requires.coded)

pub level_at-requires : goal.level_at-requires
level_at-requires g c =
    let values = map g.T.Coefficient.value c.args.coeffs.now in
    let in_area = inside c.args.block.tx_size c.args.block.tx_class c.args.scan.now c.args.eob values c.requires.coded c.args.block.plane_type c.args.c c.requires.place in
    omega (arith, c.from-at.ensures, in_area, c.requires.coded.area, length-map c.args.coeffs.now g.T.Coefficient.value)

pub context_at-requires-clause-least : goal.context_at-requires-clause-least
context_at-requires-clause-least g c =
    let values = map g.T.Coefficient.value c.args.coeffs.now in
    context_from c.args.block.tx_size c.args.block.tx_class c.args.scan.now c.args.eob values c.requires.coded c.args.block.plane_type c.args.c c.requires.place c.args.levels.now c.args.contexts.now c.requires.padded c.requires.contexts

pub context_at-requires-clause-most : goal.context_at-requires-clause-most
context_at-requires-clause-most g c =
    let values = map g.T.Coefficient.value c.args.coeffs.now in
    context_to c.args.block.tx_size c.args.block.tx_class c.args.scan.now c.args.eob values c.requires.coded c.args.block.plane_type c.args.c c.requires.place c.args.levels.now c.args.contexts.now c.requires.padded c.requires.contexts

pub base_cdf-base-requires-clause-context : goal.base_cdf-base-requires-clause-context
base_cdf-base-requires-clause-context g c =
    let values = map g.T.Coefficient.value c.args.coeffs.now in
    let size = c.args.block.tx_size in
    let class = c.args.block.tx_class in
    let is = context_is size class c.args.scan.now c.args.eob values c.requires.coded c.args.block.plane_type c.args.c c.requires.place c.args.levels.now c.args.contexts.now c.requires.padded c.requires.contexts c.context_at.result c.context_at.ensures in
    subst (λ k. k < (if nat_eq (c.args.c + 1) c.args.eob then 4 else 42)) (sym is) (context_few size class c.args.scan.now c.args.eob values c.requires.coded c.args.block.plane_type c.args.c c.requires.place)

pub write_coeff_size-requires-clause-place : goal.write_coeff_size-requires-clause-place
write_coeff_size-requires-clause-place g c =
    let values = map g.T.Coefficient.value c.args.coeffs.now in
    let size = c.args.block.tx_size in
    subst (λ p. p < coded_area size) (sym c.from-at.ensures) (inside size c.args.block.tx_class c.args.scan.now c.args.eob values c.requires.coded c.args.block.plane_type c.args.c c.requires.place)

pub write_coeff_size-requires-clause-least : goal.write_coeff_size-requires-clause-least
write_coeff_size-requires-clause-least g c =
    let values = map g.T.Coefficient.value c.args.coeffs.now in
    let level : c.unsigned_abs-size.result ≡ unsigned_abs (value_at values c.from-at.result) =
    c.unsigned_abs-size.ensures.value
    ∙ ap unsigned_abs (level_back c.args.block.tx_size c.args.block.tx_class c.args.scan.now c.args.eob values c.requires.coded c.args.c c.requires.place c.level_at.result c.from-at.result c.level_at.ensures c.from-at.ensures).0
    ∙ ap unsigned_abs c.level_at.ensures in
    let here = level ∙ ap (λ p. unsigned_abs (value_at values p)) c.from-at.ensures in
    subst (λ s. lowest (nat_eq (c.args.c + 1) c.args.eob) ≤ s) (sym here)
    (least_size c.args.block.tx_size c.args.block.tx_class c.args.scan.now c.args.eob values c.requires.coded c.args.block.plane_type c.args.c c.requires.place)

pub returns-clause-wrote : goal.returns-clause-wrote
returns-clause-wrote g c =
    let values = map g.T.Coefficient.value c.args.coeffs.now in
    let size = c.args.block.tx_size in
    let class = c.args.block.tx_class in
    let old = stands g.W.Known c.args.w.now c.args.self.now in
    let new = stands g.W.Known c.write_coeff_size.new.w c.write_coeff_size.new.self in
    let level : c.unsigned_abs-size.result ≡ unsigned_abs (value_at values c.from-at.result) =
    c.unsigned_abs-size.ensures.value
    ∙ ap unsigned_abs (level_back c.args.block.tx_size c.args.block.tx_class c.args.scan.now c.args.eob values c.requires.coded c.args.c c.requires.place c.level_at.result c.from-at.result c.level_at.ensures c.from-at.ensures).0
    ∙ ap unsigned_abs c.level_at.ensures in
    let is = context_is size class c.args.scan.now c.args.eob values c.requires.coded c.args.block.plane_type c.args.c c.requires.place c.args.levels.now c.args.contexts.now c.requires.padded c.requires.contexts c.context_at.result c.context_at.ensures in
    size_coded c.write_coeff_size.result size class c.args.scan.now c.args.eob values c.requires.coded c.args.block.plane_type c.args.c c.requires.place c.args.levels.now c.requires.padded (Adaptive (slot_of c.base_cdf-base.result)) c.context_at.result
    c.from-at.result c.unsigned_abs-size.result old new c.base_cdf-base.ensures.is is c.from-at.ensures level c.write_coeff_size.ensures.wrote
