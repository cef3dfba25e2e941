-- What is told of a loss, of a call that failed, and of an etcd, inside a sentence.
use Rattle.std.specs.Prelude.{ℕ, List, [], ◌++◌, codes, Option, Some, None}
use Rattle.std.specs.Fmt.{decimal}
use Rattle.disk_integrity.specs.declared.loss.Loss.{Loss}
use Rattle.disk_integrity.specs.declared.loss.Loss.TheVariants.{Sums, NoCheckpoint, NoCutRecord, Gone}
use Rattle.disk_integrity.specs.declared.trace.Trace.{Trace}
use Rattle.disk_integrity.specs.declared.trace.Trace.TheVariants as trace
use Rattle.etcd_store.specs.declared.error.StoreError.{StoreError}
use Rattle.etcd_store.specs.declared.error.StoreError.TheVariants.{Unreachable, Unanswered, Refused, TlsWanted, NoSpace, Damaged, Lost, Memory}
use Rattle.disk_integrity.specs.declared.fault.SumFault.{SumFault}
use Rattle.disk_integrity.specs.declared.fault.SumFault.TheVariants.{Unreadable, Short, Changed}
use Rattle.disk_integrity.specs.declared.call.ShelfCall.{ShelfCall}
use Rattle.disk_integrity.specs.declared.call.ShelfCall.TheVariants as call

-- what is wrong with a segment whose sums don't hold
abbrev pub sums_text : ℕ → SumFault → List ℕ
sums_text n (Unreadable good) =
    codes "the sums of segment " ++ decimal n ++ codes " can't be read behind those of its first " ++ decimal good ++ codes " bytes"
sums_text n (Short good named) = codes "segment " ++ decimal n ++ codes " had " ++ decimal named ++ codes " bytes when it was synced, and has fewer"
sums_text n (Changed good named) =
    codes "segment " ++ decimal n ++ codes " has other bytes between " ++ decimal good ++ codes " and " ++ decimal named ++ codes " than were synced"

-- that the document has gone, of which this is left
abbrev pub gone_text : Trace → List ℕ
gone_text trace.Identity = codes "no segment of the document is left, but its identity is"
gone_text (trace.Sums n) = codes "no segment of the document is left, but sums of segment " ++ decimal n ++ codes " are"

-- what opening a folder would lose
abbrev pub loss_text : Loss → List ℕ
loss_text (Sums n fault) = sums_text n fault
loss_text (NoCheckpoint n at) = codes "segment " ++ decimal n ++ codes " is no checkpoint that a crash cut short, at offset " ++ decimal at
loss_text (NoCutRecord n at) = codes "segment " ++ decimal n ++ codes " has more behind offset " ++ decimal at ++ codes " than a crash leaves"
loss_text (Gone trace) = gone_text trace

-- what was done to a segment
abbrev pub done_to : ℕ → List ℕ → List ℕ
done_to n what = codes " when segment " ++ decimal n ++ what

-- which call failed, where that is known
abbrev pub cause_text : Option ShelfCall → List ℕ
cause_text None = []
cause_text (Some call.List) = codes " when the folder was listed"
cause_text (Some (call.Read n)) = done_to n (codes " was read")
cause_text (Some (call.Create n)) = done_to n (codes " was made")
cause_text (Some (call.Append n)) = done_to n (codes " was written")
cause_text (Some (call.Sync n)) = done_to n (codes " was synced")
cause_text (Some (call.Retire n)) = done_to n (codes " was removed")

-- what is wrong with an etcd that didn't do what it was asked
abbrev pub why_text : StoreError → List ℕ
why_text Unreachable = codes "can't be reached"
why_text Unanswered = codes "doesn't answer"
why_text Refused = codes "wants a password, or denies permission"
why_text TlsWanted = codes "wants TLS"
why_text NoSpace = codes "has no space left"
why_text Damaged = codes "holds damaged or foreign keys"
why_text Lost = codes "no longer names this process as its owner"
why_text Memory = codes "wasn't asked, out of memory"

-- what a person may do about that
abbrev pub advice_text : StoreError → List ℕ
advice_text Unreachable = codes "look at its URLs, and whether it runs"
advice_text Unanswered = codes "look at its health"
advice_text Refused = codes "turn its authentication off"
advice_text TlsWanted = codes "name a port with plain HTTP, or a tunnel"
advice_text NoSpace = codes "make room in it"
advice_text Damaged = codes "delete the foreign ones, or put a snapshot in its place"
advice_text Lost = codes "start again"
advice_text Memory = codes "free some"

-- the same inside a sentence, if it is known
abbrev pub because_text : Option StoreError → List ℕ
because_text None = []
because_text (Some error) = codes ", because the etcd " ++ why_text error
