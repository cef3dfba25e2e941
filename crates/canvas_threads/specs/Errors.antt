-- Why a node ends.
use Rattle.std.specs.Prelude.{ℕ}
use Rattle.canvas_judge.specs.declared.message.NoReason.{NoReason}
use Rattle.canvas_judge.specs.declared.message.NoReason.TheVariants as no
use Rattle.canvas_journal.specs.declared.fault.KeepError.TheVariants as keep
use Rattle.canvas_desk.specs.declared.faults.Refusal.TheVariants as refusal
use Rattle.canvas_desk.specs.declared.faults.SubmitError.{SubmitError}
use Rattle.canvas_desk.specs.declared.faults.SubmitError.TheVariants.{NotKept, Refused}
use Rattle.canvas_nodes.specs.declared.link.LinkError.{LinkError}
use Rattle.canvas_nodes.specs.declared.link.LinkError.TheVariants as link

-- the error that a No tells, where so many of the client's edits are known to be judged; a seat never sends Repeat and NotRead
abbrev pub error_told : ℕ → NoReason → SubmitError
error_told done no.Stranger = Refused refusal.Stranger
error_told done no.Repeat = NotKept keep.Failed
error_told done no.Gap = Refused (refusal.Gap done)
error_told done no.Full = Refused refusal.Full
error_told done no.Device = NotKept keep.Device
error_told done no.Failed = NotKept keep.Failed
error_told done no.Memory = NotKept keep.Memory
error_told done no.TooLarge = NotKept keep.TooLarge
error_told done no.NotRead = NotKept keep.Failed

-- the error by which a node ends whose exchange broke off: the one that a No tells, want of memory, or else that the room has failed
abbrev pub error_of_link : ℕ → LinkError → SubmitError
error_of_link done (link.Refused reason) = error_told done reason
error_of_link done link.Memory = NotKept keep.Memory
error_of_link done link.Ended = NotKept keep.Failed
error_of_link done link.NotRead = NotKept keep.Failed
