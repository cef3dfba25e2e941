use Rattle.std.proofs.Common.{sym, subst}
use Rattle.serde_json.specs.View.{view}
use Rattle.canvas_forms.specs.Version.{version_two}
use Rattle.canvas_wire.specs.Drafts.{seen_parts}
use Rattle.canvas_wire.specs.Messages.{IsMessageJson}
use Rattle.canvas_wire.specs.Faults.{Means}
use Rattle.canvas_wire.specs.Text.{IsShallowMessage, IsMessageFault}
use Rattle.canvas_wire.proofs.Message.{message_fault, message_out, message_means, message_unfinished, made}
use Rattle.canvas_wire.proofs.messages.judge_message.Goals as goal

pub returns-in-Err-clause-fault : goal.returns-in-Err-clause-fault
returns-in-Err-clause-fault g c =
    subst (IsMessageFault (view c.args.json.now)) (sym c.refusal.ensures) (message_fault (view c.args.json.now) c.in-Err.fault c.in-Err.ensures.fault)

pub returns-then-not-fits-clause-fault : goal.returns-then-not-fits-clause-fault
returns-then-not-fits-clause-fault g c =
    message_out (view c.args.json.now) (seen_parts c.in-Ok.read.0) c.in-Ok.read.1 c.in-Ok.ensures.ok c.if-not-fits.true

pub finish_message-requires : goal.finish_message-requires
finish_message-requires g c =
    made (view c.args.json.now) (seen_parts c.in-Ok.read.0) c.in-Ok.read.1 c.in-Ok.ensures.ok c.if-not-fits.false

pub returns-in-Ok-finish_message-clause-ok : goal.returns-in-Ok-finish_message-clause-ok
returns-in-Ok-finish_message-clause-ok g c =
    subst (Means (IsMessageJson version_two) IsShallowMessage (view c.args.json.now)) (sym c.in-Ok-finish_message.ensures.ok)
    (message_means (view c.args.json.now) (seen_parts c.in-Ok.read.0) c.in-Ok.read.1 c.in-Ok.ensures.ok c.if-not-fits.false c.in-Ok-finish_message.ensures.shallow)

pub returns-in-Err-finish_message-clause-fault : goal.returns-in-Err-finish_message-clause-fault
returns-in-Err-finish_message-clause-fault g c =
    message_unfinished (view c.args.json.now) (seen_parts c.in-Ok.read.0) c.in-Ok.read.1 c.in-Ok.ensures.ok c.if-not-fits.false c.in-Err-finish_message.error c.in-Err-finish_message.ensures.fault
