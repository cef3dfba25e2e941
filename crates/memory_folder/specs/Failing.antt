-- Which of the calls to come fail.
use Rattle.std.specs.Prelude.{ℕ, ◌+◌, Bool, false, nat_le, ◌==◌}
use Rattle.memory_folder.specs.declared.failing.Failing.{Failing}
use Rattle.memory_folder.specs.declared.failing.Failing.TheVariants.{Never, After, Only}

-- whether the call after so many others fails
abbrev pub folder_call_fails : Failing → ℕ → Bool
folder_call_fails Never n = false
folder_call_fails (After calls) n = nat_le calls n
folder_call_fails (Only call) n = n + 1 == call
