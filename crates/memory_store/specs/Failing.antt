-- Which of the calls to come fail.
use Rattle.std.specs.Prelude.{ℕ, ◌+◌, Bool, false, nat_le, ◌==◌}
use Rattle.memory_store.specs.declared.failing.Failing.{Failing}
use Rattle.memory_store.specs.declared.failing.Failing.TheVariants.{Never, After, Only}

-- whether the call after so many others fails
abbrev pub store_call_fails : Failing → ℕ → Bool
store_call_fails Never n = false
store_call_fails (After calls) n = nat_le calls n
store_call_fails (Only call) n = n + 1 == call
