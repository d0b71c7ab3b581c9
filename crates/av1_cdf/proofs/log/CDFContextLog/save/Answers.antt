use Rattle.std.proofs.Common.{IsTrue, subst, sym, ap, arith}
use Rattle.av1_cdf.specs.Log.{small_saves, large_saves}
use Rattle.av1_cdf.specs.Windows.{short_windows, long_windows, all_short, all_long}
use Rattle.av1_cdf.proofs.Undoing.{all_push, small_keeps, large_keeps}
use Rattle.av1_cdf.proofs.Windows.{slot_windows}
use Rattle.av1_cdf.proofs.Cells.{slot_short}
use Rattle.av1_cdf.proofs.log.CDFContextLog.save.Goals as goal

pub invariant_of-self : goal.invariant_of-self
invariant_of-self c =
    let log = c.args.self.now in
    let cdf = c.args.cdf in
    let window : IsTrue (short_windows cdf.place cdf.place) = (slot_windows cdf.place cdf.len cdf.is_slot).0 (omega arith) in
    record {
      short = subst (λ xs. IsTrue (all_short xs)) (sym c.keep.ensures.saved) (all_push (λ s. short_windows s.place s.place) (small_saves log) _ log.short window);
      long = log.long;
    }

pub invariant_of-self-else-cdf-le-CDF_LEN_SMALL : goal.invariant_of-self-else-cdf-le-CDF_LEN_SMALL
invariant_of-self-else-cdf-le-CDF_LEN_SMALL c =
    let log = c.args.self.now in
    let cdf = c.args.cdf in
    let window : IsTrue (long_windows cdf.place cdf.place) = (slot_windows cdf.place cdf.len cdf.is_slot).1 (omega arith) in
    record {
      short = log.short;
      long = subst (λ xs. IsTrue (all_long xs)) (sym c.keep-else-cdf-le-CDF_LEN_SMALL.ensures.saved) (all_push (λ s. long_windows s.place s.place) (large_saves log) _ log.long window);
    }

pub returns-then-cdf-le-CDF_LEN_SMALL-clause-saved : goal.returns-then-cdf-le-CDF_LEN_SMALL-clause-saved
returns-then-cdf-le-CDF_LEN_SMALL-clause-saved c ws =
    let log = c.args.self.now in
    let cdf = c.args.cdf in
    small_keeps log _ c.args.fc.now ws cdf.place cdf.len (omega arith) (ap (λ xs. (xs, large_saves log)) c.keep.ensures.saved)

pub returns-else-cdf-le-CDF_LEN_SMALL-clause-saved : goal.returns-else-cdf-le-CDF_LEN_SMALL-clause-saved
returns-else-cdf-le-CDF_LEN_SMALL-clause-saved c ws =
    let log = c.args.self.now in
    let cdf = c.args.cdf in
    large_keeps log _ c.args.fc.now ws cdf.place cdf.len (slot_short cdf.place cdf.len cdf.is_slot) ((slot_windows cdf.place cdf.len cdf.is_slot).1 (omega arith))
    (ap (λ xs. (small_saves log, xs)) c.keep-else-cdf-le-CDF_LEN_SMALL.ensures.saved)
