use Rattle.std.proofs.Common.{◌≡◌, Some, IsTrue, sym, subst, rules}
use Rattle.av1_mvref.specs.ExtraSearch.{Candidates}
use Rattle.av1_step.specs.declared.step.TileStep.TheVariants.{MvRefs}
use Rattle.av1_step.specs.Kept.{IsKept}
use Rattle.av1_step.specs.State.{tile_of}
use Rattle.av1_step.specs.Step.{entered}
use Rattle.av1_step.specs.VectorSteps.{find, mv_refs_kind}
use Rattle.av1_step.proofs.OfCurrent.{current_allowed}
use Rattle.av1_step.proofs.Ready.{ready}
use Rattle.av1_step.proofs.StepLaws.{kept_after}
use Rattle.av1_step.proofs.VectorArms.{refs_entered}
use Rattle.av1_step.proofs.VectorSteps.{refers_from, refers_to, second_is}
use Rattle.av1_step.proofs.tile.TileState.enter_mv_refs.Goals as goal

pub find_mvrefs-context-requires-clause-ready : goal.find_mvrefs-context-requires-clause-ready
find_mvrefs-context-requires-clause-ready c = ready (tile_of c.args.self.now) c.args.self.now.kept

pub find_mvrefs-context-requires-clause-first : goal.find_mvrefs-context-requires-clause-first
find_mvrefs-context-requires-clause-first c =
    let t = tile_of c.args.self.now in
    let b = c.unwrap-size.result in
    let current : t.current ≡ Some b = search rules in
    refers_to c.args.has_tr t b c.standing_at-block.result c.args.self.now.kept current c.standing_at-block.ensures (current_allowed (find c.args.has_tr) (mv_refs_kind c.args.has_tr t) t.current b tt current c.requires)

pub find_mvrefs-context-requires-clause-pair : goal.find_mvrefs-context-requires-clause-pair
find_mvrefs-context-requires-clause-pair c two =
    let t = tile_of c.args.self.now in
    let b = c.unwrap-size.result in
    let current : t.current ≡ Some b = search rules in
    let allowed = current_allowed (find c.args.has_tr) (mv_refs_kind c.args.has_tr t) t.current b tt current c.requires in
    let x = c.standing_at-block.result in
    (record { first = refers_from c.args.has_tr t b x c.args.self.now.kept current c.standing_at-block.ensures allowed; last = refers_to c.args.has_tr t b x c.args.self.now.kept current c.standing_at-block.ensures allowed }, second_is x (subst (λ a. IsTrue a) c.has_second_ref.ensures two))

pub invariant_of-self : goal.invariant_of-self
invariant_of-self c =
    let t = tile_of c.args.self.now in
    let b = c.unwrap-size.result in
    let current : t.current ≡ Some b = search rules in
    let found : Candidates = record { list = c.find_mvrefs-context.new.mv_stack.items; context = c.find_mvrefs-context.result } in
    let e : record t { cands = Some found } ≡ entered (MvRefs c.args.has_tr) t =
    refs_entered c.args.has_tr t b c.standing_at-block.result c.has_second_ref.result found current c.standing_at-block.ensures c.has_second_ref.ensures (λ i. record { list = c.find_mvrefs-context.ensures.list i; context = c.find_mvrefs-context.ensures.context i }) in
    record { cdfs = c.args.self.now.cdfs; kept = subst IsKept (sym e) (kept_after (MvRefs c.args.has_tr) t.numbers t c.args.self.now.cdfs c.args.self.now.kept c.requires); switches = c.args.self.now.switches }

pub returns-clause-tile : goal.returns-clause-tile
returns-clause-tile c =
    let t = tile_of c.args.self.now in
    let b = c.unwrap-size.result in
    let current : t.current ≡ Some b = search rules in
    let found : Candidates = record { list = c.find_mvrefs-context.new.mv_stack.items; context = c.find_mvrefs-context.result } in
    refs_entered c.args.has_tr t b c.standing_at-block.result c.has_second_ref.result found current c.standing_at-block.ensures c.has_second_ref.ensures (λ i. record { list = c.find_mvrefs-context.ensures.list i; context = c.find_mvrefs-context.ensures.context i })
