use Rattle.std.proofs.Common.{Ok, subst, nat_eq}
use Rattle.av1_model.specs.Comes.{Writes, Begins}
use Rattle.av1_model.proofs.ComesLaws.{wrote_err}
use Rattle.av1_syntax.specs.Calls.{stands, coded_in, learnt_in}
use Rattle.av1_syntax.specs.Restoration.{plane_at, kind_element}
use Rattle.av1_syntax.proofs.FilterWrites.{lrf_begun, lrf_begun_later, lrf_wrote}
use Rattle.av1_syntax.proofs.context_writer.ContextWriter.write_lrf.Goals as goal

pub returns-in_err-write_kind-clause-wrote : goal.returns-in_err-write_kind-clause-wrote
returns-in_err-write_kind-clause-wrote g c =
    let plane = plane_at c.args.rs.now c.args.pli in
    let old = stands g.W.Known c.args.w.now c.args.self.now in
    let new = stands g.W.Known c.write_kind.new.w c.write_kind.new.self in
    let b = subst (λ k. Begins coded_in learnt_in (kind_element plane.lrf_type).tree k old new) c.kind.ensures.value c.in_err-write_kind.ensures.wrote in
    wrote_err coded_in learnt_in c.from_residual.result _ _ old new c.from_residual.ensures.0 (lrf_begun plane (nat_eq c.args.pli 0) c.args.filter c.requires.references c.requires.filter old new b)

pub returns-in_err-write_filter-clause-wrote : goal.returns-in_err-write_filter-clause-wrote
returns-in_err-write_filter-clause-wrote g c =
    let plane = plane_at c.args.rs.now c.args.pli in
    let old = stands g.W.Known c.args.w.now c.args.self.now in
    let mid = stands g.W.Known c.write_kind.new.w c.write_kind.new.self in
    let new = stands g.W.Known c.write_filter.new.w c.write_kind.new.self in
    let first = subst (λ k. Writes coded_in learnt_in (kind_element plane.lrf_type).tree k old mid) c.kind.ensures.value c.in_ok-write_kind.ensures.wrote in
    wrote_err coded_in learnt_in c.from_residual-in_err-write_filter.result _ _ old new c.from_residual-in_err-write_filter.ensures.0
    (lrf_begun_later plane (nat_eq c.args.pli 0) c.args.filter c.requires.references c.requires.filter old mid new first c.in_err-write_filter.ensures.wrote)

pub returns-clause-wrote : goal.returns-clause-wrote
returns-clause-wrote g c =
    let plane = plane_at c.args.rs.now c.args.pli in
    let old = stands g.W.Known c.args.w.now c.args.self.now in
    let mid = stands g.W.Known c.write_kind.new.w c.write_kind.new.self in
    let new = stands g.W.Known c.write_filter.new.w c.write_kind.new.self in
    let first = subst (λ k. Writes coded_in learnt_in (kind_element plane.lrf_type).tree k old mid) c.kind.ensures.value c.in_ok-write_kind.ensures.wrote in
    lrf_wrote plane (nat_eq c.args.pli 0) c.args.filter c.requires.references c.requires.filter {U = Unit {0}} {E = Unit {0}} (Ok tt) old mid new first c.in_ok-write_filter.ensures.wrote
