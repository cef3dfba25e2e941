-- An edit of the client's own, by the message that bytes spell.
use Rattle.std.proofs.Common.{◌≡◌, subst}
use Rattle.std.specs.Prelude.{ℕ, List, Some}
use Rattle.canvas_model.specs.Change.{Change}
use Rattle.canvas_model.specs.Client.{Client}
use Rattle.canvas_model.specs.Messages.{Edit, Message}
use Rattle.canvas_wire.specs.Text.{SpellsMessage}
use Rattle.canvas_embed.specs.Resuming.{SpellsOwnEdit}

pub own_edit : (client : Client) (bytes : List ℕ) (id n m : ℕ) (change : Change) (message : Message) → client.id ≡ Some id → SpellsMessage bytes message → message ≡ Edit id n change → n ≡ m → SpellsOwnEdit client bytes m change
own_edit client bytes id n m change message has spelled e f = record { id = id; has = has; spelled = subst (λ k. SpellsMessage bytes (Edit id k change)) f (subst (SpellsMessage bytes) e spelled) }
