use Rattle.std.proofs.Common.{ℕ, ◌<◌, Ok, Err, pos, arith}
use Rattle.av1_model.proofs.ComesLaws.{wrote_err}
use Rattle.av1_syntax.specs.Calls.{stands, coded_in, learnt_in}
use Rattle.av1_syntax.specs.Restoration.{weight_by, weight_element, number_at}
use Rattle.av1_syntax.proofs.FilterWrites.{two_first, two_wrote, weight_fits, by_reference}
use Rattle.av1_syntax.proofs.Restoring.{IsWeight, weight_reads}
use Rattle.av1_syntax.proofs.Moving.{moves_then}
use Rattle.av1_syntax.proofs.context_writer.ContextWriter.write_weights.Goals as goal

pub returns-in_err-write_weight-clause-wrote : goal.returns-in_err-write_weight-clause-wrote
returns-in_err-write_weight-clause-wrote g c =
    let old = stands g.W.Known c.args.w.now c.args.self.now in
    let new = stands g.W.Known c.write_weight.new.w c.args.self.now in
    let read = λ (j : ℕ) (l : j < 2). weight_reads c.args.set j (number_at c.args.refs j) l (c.requires.references j l) in
    let are : (j : ℕ) → j < 2 → IsWeight c.args.set j (number_at c.args.xqd j) = λ j l. (c.requires.weights.within j l, c.requires.weights.unused j l) in
    let fr = λ (j : ℕ) (l : j < 2). weight_fits j (number_at c.args.refs j) l (c.requires.references j l) in
    let fv = λ (j : ℕ) (l : j < 2). weight_fits j (number_at c.args.xqd j) l (c.requires.weights.within j l) in
    wrote_err coded_in learnt_in c.from_residual.result _ _ old new c.from_residual.ensures.0
    (two_first (weight_element c.args.set c.args.refs) (pos 0) (IsWeight c.args.set) 49 c.args.xqd read c.requires.weights.two are old new
    (by_reference {U = Unit {0}} {E = Unit {0}} (Err tt) (weight_by c.args.set 0) (number_at c.args.refs 0) (number_at c.args.xqd 0) old new (fr 0 (omega arith)) (fv 0 (omega arith)) c.in_err-write_weight.ensures.wrote))

pub returns-clause-wrote : goal.returns-clause-wrote
returns-clause-wrote g c =
    let old = stands g.W.Known c.args.w.now c.args.self.now in
    let mid = stands g.W.Known c.write_weight.new.w c.args.self.now in
    let new = stands g.W.Known c.write_weight-2.new.w c.args.self.now in
    let read = λ (j : ℕ) (l : j < 2). weight_reads c.args.set j (number_at c.args.refs j) l (c.requires.references j l) in
    let are : (j : ℕ) → j < 2 → IsWeight c.args.set j (number_at c.args.xqd j) = λ j l. (c.requires.weights.within j l, c.requires.weights.unused j l) in
    let fr = λ (j : ℕ) (l : j < 2). weight_fits j (number_at c.args.refs j) l (c.requires.references j l) in
    let fv = λ (j : ℕ) (l : j < 2). weight_fits j (number_at c.args.xqd j) l (c.requires.weights.within j l) in
    two_wrote (weight_element c.args.set c.args.refs) (pos 0) (IsWeight c.args.set) 49 c.args.xqd read c.requires.weights.two are c.write_weight-2.result old mid new
    (by_reference {U = Unit {0}} {E = Unit {0}} (Ok tt) (weight_by c.args.set 0) (number_at c.args.refs 0) (number_at c.args.xqd 0) old mid (fr 0 (omega arith)) (fv 0 (omega arith)) c.in_ok-write_weight.ensures.wrote)
    (by_reference c.write_weight-2.result (weight_by c.args.set 1) (number_at c.args.refs 1) (number_at c.args.xqd 1) mid new (fr 1 (omega arith)) (fv 1 (omega arith)) c.write_weight-2.ensures.wrote)

pub returns-clause-moves : goal.returns-clause-moves
returns-clause-moves g c = moves_then g.W.Known 637 637 1274 _ _ _ _ _ _ _ _ _ (omega arith) c.in_ok-write_weight.ensures.moves c.write_weight-2.ensures.moves
