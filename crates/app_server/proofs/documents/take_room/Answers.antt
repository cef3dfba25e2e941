use Rattle.std.proofs.Common.{◌⊎◌, ℕ, inl, inr}
use Rattle.app_faults.specs.declared.fault.Fault.{Fault}
use Rattle.app_storage.specs.Faults.{IsOpeningFault, IsThreadFault}
use Rattle.app_server.proofs.documents.take_room.Goals as goal

-- what opens no document for any number of workers opens none for this many
for_workers : (count : ℕ) (fault : Fault) → ((workers : ℕ) → IsOpeningFault workers fault) ⊎ IsThreadFault fault → IsOpeningFault count fault ⊎ IsThreadFault fault
for_workers count fault (inl any) = inl (any count)
for_workers count fault (inr thread) = inr thread

pub returns-in-Err-clause-faults : goal.returns-in-Err-clause-faults
returns-in-Err-clause-faults g c = for_workers c.args.workers c.in-Err.fault c.in-Err.ensures
