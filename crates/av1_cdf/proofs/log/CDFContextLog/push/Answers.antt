use Rattle.av1_cdf.proofs.Undoing.{keeps_from}
use Rattle.av1_cdf.proofs.log.CDFContextLog.push.Goals as goal

pub returns-clause-saved : goal.returns-clause-saved
returns-clause-saved c ws =
    keeps_from c.args.self.now c.ready_for.new.self c.save.new.self c.args.fc.now _ c.in_ok-ready_for.ensures.same (c.save.ensures.saved ws)
