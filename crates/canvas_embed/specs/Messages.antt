-- What a client does with bytes, and which bytes are to be sent.
use Rattle.std.specs.Prelude.{◌≡◌, ℕ, List, Some}
use Rattle.canvas_model.specs.Client.{Client}
use Rattle.canvas_model.specs.Messages.{Message}
use Rattle.canvas_model.specs.Messages as messages
use Rattle.canvas_model.specs.Receive.{Received, Receives}
use Rattle.canvas_client.specs.declared.received.Received as stored
use Rattle.canvas_client.specs.Follow.{CanFollow}
use Rattle.canvas_client.specs.Receives.{ChangesOnlyWhereTook, IsWaiting, ReceivesApart, StaysUpright}
use Rattle.canvas_client.specs.Seen.{seen_received}
use Rattle.canvas_judge.specs.declared.message.NoReason.{NoReason}
use Rattle.canvas_judge.specs.Reasons.{number_of}
use Rattle.canvas_wire.specs.Text.{EncodesMessage, SpellsMessage}
use Rattle.canvas_embed.specs.declared.heard.Heard.{Heard}
use Rattle.canvas_embed.specs.declared.heard.Heard.TheVariants as heard

-- what is told of a message with which the client did so: an Idle and a No by themselves, each other one by what the client did
abbrev pub Tells : Message → Received → Heard → Type 0
Tells messages.Idle answer told = told ≡ heard.Idle
Tells (messages.No n) answer told = (reason : NoReason) × (told ≡ heard.No reason) × (number_of reason ≡ n)
Tells _ answer told = (received : stored.Received) × (told ≡ heard.Received received) × (seen_received received ≡ answer)

-- the bytes are a text of a message, and that is what the client has received, and what is told
pub record HasHeard (old : Client) (bytes : List ℕ) (told : Heard) (new : Client) : Type 0 where
  pub message : Message
  pub answer : Received
  pub spelled : SpellsMessage bytes message
  pub apart : ReceivesApart old message answer new
  pub receives : CanFollow message → Receives old message answer new
  pub unchanged : ChangesOnlyWhereTook old answer new
  pub stands : StaysUpright old message answer new
  pub tells : Tells message answer told

-- the bytes are the text of the client's Ask
pub record IsAskText (client : Client) (bytes : List ℕ) : Type 0 where
  pub id : ℕ
  pub has_id : client.id ≡ Some id
  pub text : EncodesMessage bytes (messages.Ask id client.version)

-- the bytes are the text of the i-th edit that waits
pub record IsEditText (client : Client) (i : ℕ) (bytes : List ℕ) : Type 0 where
  pub message : Message
  pub waits : IsWaiting client i message
  pub text : EncodesMessage bytes message
