-- Edits that were saved as messages, made again.
use Rattle.std.specs.Prelude.{◌≡◌, ◌⊎◌, ◌+◌, ◌<◌, ◌≤◌, ℕ, List, Some}
use Rattle.canvas_model.specs.Change.{Change}
use Rattle.canvas_model.specs.Client.{Client, last_number}
use Rattle.canvas_model.specs.Local.{edited}
use Rattle.canvas_model.specs.Messages.{Edit, Message}
use Rattle.canvas_client.specs.Asked.{StandsStill}
use Rattle.canvas_client.specs.Placed.{MayAdd}
use Rattle.canvas_wire.specs.Text.{IsMessageError, SpellsMessage}
use Rattle.canvas_embed.specs.declared.resuming.Resumed.{Resumed}
use Rattle.canvas_embed.specs.declared.resuming.Resumed.TheVariants as resumed
use Rattle.canvas_embed.specs.declared.fault.ResumeError.{ResumeError}
use Rattle.canvas_embed.specs.declared.fault.ResumeError.TheVariants as error

-- the bytes are the text of the message by which the client sends its edit of this number, and this is its change
pub record SpellsOwnEdit (client : Client) (bytes : List ℕ) (number : ℕ) (change : Change) : Type 0 where
  pub id : ℕ
  pub has : client.id ≡ Some id
  pub spelled : SpellsMessage bytes (Edit id number change)

-- the client has given this number to an edit, or a higher one
abbrev pub IsGiven : Client → ℕ → Type 0
IsGiven client number = number ≤ last_number client

-- the client has made this change its next edit, and stands where it stood
pub record HasMadeNext (old : Client) (change : Change) (new : Client) : Type 0 where
  pub may : MayAdd old change
  pub made : new ≡ edited old change
  pub stands : StandsStill old new

-- the bytes spell the client's next edit, which it has made; or one that it had, and it is as it was
abbrev pub HasResumed : Client → List ℕ → Resumed → Client → Type 0
HasResumed old bytes resumed.Made new = (change : Change) × SpellsOwnEdit old bytes (last_number old + 1) change × HasMadeNext old change new
HasResumed old bytes resumed.Had new = (number : ℕ) × (change : Change) × SpellsOwnEdit old bytes number change × IsGiven old number × (new ≡ old)

-- the bytes spell an edit that may be the client's next one, or one that it had
abbrev pub MayResume : Client → List ℕ → Type 0
MayResume client bytes =
    (number : ℕ) × (change : Change) × SpellsOwnEdit client bytes number change × (IsGiven client number ⊎ ((number ≡ last_number client + 1) × MayAdd client change))

-- why no edit is made again: the bytes spell no message; they spell one that is no edit; it is an edit, and not of the client's id; it is the
-- client's own, and a number before it wasn't given; it has the next number, and the client can't add its change
abbrev pub IsResumeError : Client → List ℕ → ResumeError → Type 0
IsResumeError client bytes (error.Message e) = IsMessageError bytes e
IsResumeError client bytes error.NotAnEdit = (message : Message) × SpellsMessage bytes message × ((id number : ℕ) (change : Change) → message ≡ Edit id number change → ⊥)
IsResumeError client bytes error.NotOwn = (id number : ℕ) × (change : Change) × SpellsMessage bytes (Edit id number change) × (client.id ≡ Some id → ⊥)
IsResumeError client bytes error.Gap = (number : ℕ) × (change : Change) × SpellsOwnEdit client bytes number change × (last_number client + 1 < number)
IsResumeError client bytes error.NotNext = (change : Change) × SpellsOwnEdit client bytes (last_number client + 1) change × (MayAdd client change → ⊥)
