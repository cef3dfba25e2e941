-- What holds of a fault, or of every one.
use Rattle.std.proofs.Common.{Result, Ok, Err, IfErr}
use Rattle.canvas_nodes.specs.declared.link.LinkError.{LinkError}
use Rattle.canvas_nodes.specs.declared.link.LinkError.TheVariants.{Ended, Refused, NotRead, Memory}
use Rattle.canvas_daemon.specs.Faults.{IsMemoryOrDevice, fault_of_link}

-- what follows from two facts of an error
pub of_both : {X E : Type 0} (r : Result X E) (P Q S : E → Type 0) → ((e : E) → P e → Q e → S e) → IfErr r P → IfErr r Q → IfErr r S
of_both (Ok x) P Q S all p q = tt
of_both (Err e) P Q S all p q = all e p q

-- a round without an answer is want of memory or a failed device
pub link_fault : (e : LinkError) → IsMemoryOrDevice (fault_of_link e)
link_fault Ended = tt
link_fault (Refused reason) = tt
link_fault NotRead = tt
link_fault Memory = tt
