use Rattle.rally.proofs.Rallies.{told_so}
use Rattle.rally.proofs.fault.end.Goals as goal

pub returns-in_default : goal.returns-in_default
returns-in_default g c = told_so c.args.fault.now c.end.result (g.F.Write.contents c.args.faults.now) (g.F.Write.contents c.end.new.faults) c.in_default.not-Usage c.end.ensures
