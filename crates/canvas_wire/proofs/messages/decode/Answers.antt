use Rattle.std.proofs.lemmas.Result.{IfOk-weaker, IfErr-weaker}
use Rattle.serde_json.specs.View.{view}
use Rattle.canvas_judge.specs.Seen.{seen_message}
use Rattle.canvas_forms.specs.Version.{version_two}
use Rattle.canvas_wire.specs.Messages.{IsMessageShape, IsMessageJson}
use Rattle.canvas_wire.specs.Text.{IsShallowMessage}
use Rattle.canvas_wire.proofs.Message.{one_message, message_shaped}
use Rattle.canvas_wire.proofs.Decoding.{spells_one, bytes_fault, only_memory}
use Rattle.canvas_wire.proofs.messages.decode.Goals as goal

pub returns-in-Ok-clause-ok : goal.returns-in-Ok-clause-ok
returns-in-Ok-clause-ok g c = IfOk-weaker c.judge_message.result _ _ (λ r m. (view c.in-Ok.json, c.in-Ok.ensures.ok, m)) c.judge_message.ensures.ok

pub returns-in-Ok-clause-fault : goal.returns-in-Ok-clause-fault
returns-in-Ok-clause-fault g c =
    IfErr-weaker c.judge_message.result _ _ (λ f h. bytes_fault (IsMessageShape version_two) (IsMessageJson version_two) IsShallowMessage one_message message_shaped c.args.bytes.now (view c.in-Ok.json) f c.in-Ok.ensures.ok h) c.judge_message.ensures.fault

pub returns-in-Ok-clause-only : goal.returns-in-Ok-clause-only
returns-in-Ok-clause-only g c m spells =
    IfOk-weaker c.judge_message.result _ _
    (λ r h. spells_one (IsMessageShape version_two) (IsMessageJson version_two) IsShallowMessage one_message message_shaped c.args.bytes.now (view c.in-Ok.json) (seen_message r) m c.in-Ok.ensures.ok h spells) c.judge_message.ensures.ok

pub returns-in-Ok-clause-only_memory : goal.returns-in-Ok-clause-only_memory
returns-in-Ok-clause-only_memory g c m spells =
    IfErr-weaker c.judge_message.result _ _
    (λ f h. only_memory (IsMessageShape version_two) (IsMessageJson version_two) IsShallowMessage one_message message_shaped c.args.bytes.now m f spells
    (bytes_fault (IsMessageShape version_two) (IsMessageJson version_two) IsShallowMessage one_message message_shaped c.args.bytes.now (view c.in-Ok.json) f c.in-Ok.ensures.ok h)) c.judge_message.ensures.fault
