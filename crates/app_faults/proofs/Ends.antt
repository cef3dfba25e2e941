-- How a command ends.
use Rattle.std.proofs.Common.{◌≡◌, ℕ, List, Option, Result, Ok, Err, MatchResult, inl, inr}
use Rattle.std.specs.Prelude.{OnOk}
use Rattle.app_faults.specs.Told.{EndsCommand, IsFaultTold}
use Rattle.app_faults.specs.declared.fault.Fault.{Fault}
use Rattle.app_faults.specs.declared.subject.Subject.{Subject}

-- what it did where it answered Ok, and the fault otherwise
pub ended : (did : Type 0) (done : Result (Unit {0}) Fault) (subject : Subject) (name : List ℕ) (status : ℕ) (faults told : Option (List ℕ)) → OnOk done did
    → MatchResult done (λ _. status ≡ 0) (λ fault. IsFaultTold fault subject name 0 status faults told) → EndsCommand did subject name status faults told
ended did (Ok _) subject name status faults told works is = inl (is, works)
ended did (Err fault) subject name status faults told works is = inr (fault, is)
