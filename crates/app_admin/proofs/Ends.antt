-- How a command ends.
use Rattle.std.proofs.Common.{Result, Ok, Err}
use Rattle.std.specs.Prelude.{OnOk}
use Rattle.app_faults.specs.declared.fault.Fault.{Fault}

-- what it did of an honest one, and what it did of any
pub did_both : (done : Result (Unit {0}) Fault) (honest P Q : Type 0) → (honest → OnOk done P) → OnOk done Q → OnOk done ((honest → P) × Q)
did_both (Ok _) honest P Q one other = (one, other)
did_both (Err fault) honest P Q one other = tt
