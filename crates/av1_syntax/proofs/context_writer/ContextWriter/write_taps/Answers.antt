use Rattle.std.proofs.Common.{ℕ, ◌<◌, Ok, Err, pos, arith}
use Rattle.av1_model.proofs.ComesLaws.{wrote_err}
use Rattle.av1_syntax.specs.Calls.{stands, coded_in, learnt_in}
use Rattle.av1_syntax.specs.Restoration.{tap_by, tap_element, number_at}
use Rattle.av1_syntax.proofs.FilterWrites.{three_first, three_second, three_wrote, tap_fits, by_reference}
use Rattle.av1_syntax.proofs.Restoring.{IsTap, tap_reads}
use Rattle.av1_syntax.proofs.Moving.{moves_then}
use Rattle.av1_syntax.proofs.context_writer.ContextWriter.write_taps.Goals as goal

pub returns-in_err-write_tap-clause-wrote : goal.returns-in_err-write_tap-clause-wrote
returns-in_err-write_tap-clause-wrote g c =
    let old = stands g.W.Known c.args.w.now c.args.self.now in
    let new = stands g.W.Known c.write_tap.new.w c.args.self.now in
    let read = λ (j : ℕ) (l : j < 3). tap_reads c.args.luma j (number_at c.args.refs j) l (c.requires.references j l) in
    let are : (j : ℕ) → j < 3 → IsTap c.args.luma j (number_at c.args.taps j) = λ j l. (c.requires.taps.within j l, c.requires.taps.first j l) in
    let fr = λ (j : ℕ) (l : j < 3). tap_fits j (number_at c.args.refs j) l (c.requires.references j l) in
    let fv = λ (j : ℕ) (l : j < 3). tap_fits j (number_at c.args.taps j) l (c.requires.taps.within j l) in
    wrote_err coded_in learnt_in c.from_residual.result _ _ old new c.from_residual.ensures.0
    (three_first (tap_element c.args.luma c.args.refs) (pos 0) (IsTap c.args.luma) 49 c.args.taps read c.requires.taps.three are old new
    (by_reference {U = Unit {0}} {E = Unit {0}} (Err tt) (tap_by c.args.luma 0) (number_at c.args.refs 0) (number_at c.args.taps 0) old new (fr 0 (omega arith)) (fv 0 (omega arith)) c.in_err-write_tap.ensures.wrote))

pub returns-in_err-write_tap-2-clause-wrote : goal.returns-in_err-write_tap-2-clause-wrote
returns-in_err-write_tap-2-clause-wrote g c =
    let old = stands g.W.Known c.args.w.now c.args.self.now in
    let mid = stands g.W.Known c.write_tap.new.w c.args.self.now in
    let new = stands g.W.Known c.write_tap-2.new.w c.args.self.now in
    let read = λ (j : ℕ) (l : j < 3). tap_reads c.args.luma j (number_at c.args.refs j) l (c.requires.references j l) in
    let are : (j : ℕ) → j < 3 → IsTap c.args.luma j (number_at c.args.taps j) = λ j l. (c.requires.taps.within j l, c.requires.taps.first j l) in
    let fr = λ (j : ℕ) (l : j < 3). tap_fits j (number_at c.args.refs j) l (c.requires.references j l) in
    let fv = λ (j : ℕ) (l : j < 3). tap_fits j (number_at c.args.taps j) l (c.requires.taps.within j l) in
    wrote_err coded_in learnt_in c.from_residual-in_err-write_tap-2.result _ _ old new c.from_residual-in_err-write_tap-2.ensures.0
    (three_second (tap_element c.args.luma c.args.refs) (pos 0) (IsTap c.args.luma) 49 c.args.taps read c.requires.taps.three are old mid new
    (by_reference {U = Unit {0}} {E = Unit {0}} (Ok tt) (tap_by c.args.luma 0) (number_at c.args.refs 0) (number_at c.args.taps 0) old mid (fr 0 (omega arith)) (fv 0 (omega arith)) c.in_ok-write_tap.ensures.wrote)
    (by_reference {U = Unit {0}} {E = Unit {0}} (Err tt) (tap_by c.args.luma 1) (number_at c.args.refs 1) (number_at c.args.taps 1) mid new (fr 1 (omega arith)) (fv 1 (omega arith)) c.in_err-write_tap-2.ensures.wrote))

pub returns-clause-wrote : goal.returns-clause-wrote
returns-clause-wrote g c =
    let old = stands g.W.Known c.args.w.now c.args.self.now in
    let mid = stands g.W.Known c.write_tap.new.w c.args.self.now in
    let late = stands g.W.Known c.write_tap-2.new.w c.args.self.now in
    let new = stands g.W.Known c.write_tap-3.new.w c.args.self.now in
    let read = λ (j : ℕ) (l : j < 3). tap_reads c.args.luma j (number_at c.args.refs j) l (c.requires.references j l) in
    let are : (j : ℕ) → j < 3 → IsTap c.args.luma j (number_at c.args.taps j) = λ j l. (c.requires.taps.within j l, c.requires.taps.first j l) in
    let fr = λ (j : ℕ) (l : j < 3). tap_fits j (number_at c.args.refs j) l (c.requires.references j l) in
    let fv = λ (j : ℕ) (l : j < 3). tap_fits j (number_at c.args.taps j) l (c.requires.taps.within j l) in
    three_wrote (tap_element c.args.luma c.args.refs) (pos 0) (IsTap c.args.luma) 49 c.args.taps read c.requires.taps.three are c.write_tap-3.result old mid late new
    (by_reference {U = Unit {0}} {E = Unit {0}} (Ok tt) (tap_by c.args.luma 0) (number_at c.args.refs 0) (number_at c.args.taps 0) old mid (fr 0 (omega arith)) (fv 0 (omega arith)) c.in_ok-write_tap.ensures.wrote)
    (by_reference {U = Unit {0}} {E = Unit {0}} (Ok tt) (tap_by c.args.luma 1) (number_at c.args.refs 1) (number_at c.args.taps 1) mid late (fr 1 (omega arith)) (fv 1 (omega arith)) c.in_ok-write_tap-2.ensures.wrote)
    (by_reference c.write_tap-3.result (tap_by c.args.luma 2) (number_at c.args.refs 2) (number_at c.args.taps 2) late new (fr 2 (omega arith)) (fv 2 (omega arith)) c.write_tap-3.ensures.wrote)

pub returns-clause-moves : goal.returns-clause-moves
returns-clause-moves g c =
    moves_then g.W.Known 1274 637 1911 _ _ _ _ _ _ _ _ _ (omega arith) (moves_then g.W.Known 637 637 1274 _ _ _ _ _ _ _ _ _ (omega arith) c.in_ok-write_tap.ensures.moves c.in_ok-write_tap-2.ensures.moves) c.write_tap-3.ensures.moves
