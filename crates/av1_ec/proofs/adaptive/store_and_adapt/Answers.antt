use Rattle.std.proofs.Common.{rules}
use Rattle.av1_cdf.proofs.Undoing.{keeps_from}
use Rattle.av1_ec.proofs.adaptive.store_and_adapt.Goals as goal

pub returns : goal.returns
returns g c =
    let stored = c.in_ok-store_symbol.ensures in
    record {
      ok = search rules;
      err = search rules;
      adapted = search rules;
      same = search rules;
      undone = keeps_from c.args.log.now c.ready_for.new.self c.push.new.log c.args.fc.now _ c.in_ok-ready_for.ensures.same (c.push.ensures.saved c.update_cdf.new.cdf);
      unsaved = search rules;
      room = search rules;
      spare = search rules;
      log_spare = search rules;
      kept = search rules;
    }
