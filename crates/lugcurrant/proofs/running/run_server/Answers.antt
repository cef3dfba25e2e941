use Rattle.std.proofs.Common.{inl, inr, refl}
use Rattle.app_faults.specs.declared.fault.Fault.TheVariants.{Memory}
use Rattle.lugcurrant.proofs.running.run_server.Goals as goal

-- the sentence of want of memory names no place
pub returns-in-Err : goal.returns-in-Err
returns-in-Err g c = (Memory, inl (inr refl), c.end-in-Err.ensures)
