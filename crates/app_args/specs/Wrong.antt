-- Words that aren't as they have to be.
use Rattle.app_faults.specs.declared.fault.Fault.{Fault}
use Rattle.app_faults.specs.declared.fault.Fault.TheVariants as fault
use Rattle.app_args.specs.declared.error.WordError.{WordError}
use Rattle.app_args.specs.declared.error.WordError.TheVariants.{NotAnOrigin, NotAHost, NotAUrl, NotAName, Memory}

-- the fault that a wrong word is
abbrev pub fault_of_word : WordError → Fault
fault_of_word NotAnOrigin = fault.NotAnOrigin
fault_of_word NotAHost = fault.NotAHost
fault_of_word NotAUrl = fault.NotAUrl
fault_of_word NotAName = fault.NotAName
fault_of_word Memory = fault.Memory
