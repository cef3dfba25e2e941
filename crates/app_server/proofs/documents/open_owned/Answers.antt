use Rattle.std.proofs.Common.{subst, sym}
use Rattle.app_storage.specs.Faults.{IsOpeningFault}
use Rattle.app_server.proofs.Faults.{opens_document}
use Rattle.app_server.proofs.documents.open_owned.Goals as goal

pub returns-in-Err-clause-faults : goal.returns-in-Err-clause-faults
returns-in-Err-clause-faults g c = subst (IsOpeningFault c.args.workers) (sym c.of_document.ensures) (opens_document c.args.workers _ c.in-Err.fault c.in-Err.ensures.faults)
