-- What a client asks, and which answers there are.
use Rattle.std.specs.Prelude.{◌≡◌, ◌⊎◌, ℕ, Bool, true, false, List, [], ◌∷◌}
use Rattle.canvas_model.specs.Messages.{Message, Welcome, Idle, No}
use Rattle.canvas_model.specs.Messages as messages
use Rattle.canvas_judge.specs.declared.message.NoReason.{NoReason}
use Rattle.canvas_judge.specs.declared.message.NoReason.TheVariants.{Memory, NotRead}
use Rattle.canvas_judge.specs.Reasons.{number_of}
use Rattle.canvas_wire.specs.declared.fault.WireError.{WireError}
use Rattle.canvas_wire.specs.declared.fault.WireError.TheVariants as wire
use Rattle.canvas_wire.specs.Text.{SpellsMessage, EncodesMessage}

-- a client sends such messages
abbrev pub IsAsked : Message → Type 0
IsAsked messages.Join = Unit {0}
IsAsked (messages.Edit client seq change) = Unit {0}
IsAsked (messages.Ask client version) = Unit {0}
IsAsked _ = ⊥

-- some bytes are a text of the message
abbrev pub IsDecoded : Message → Type 0
IsDecoded m = (bytes : List ℕ) × SpellsMessage bytes m

-- each of these messages was decoded
abbrev pub AreDecoded : List Message → Type 0
AreDecoded [] = Unit {0}
AreDecoded (m ∷ ms) = IsDecoded m × AreDecoded ms

-- the bytes are a text of this message, and a client sends such messages
abbrev pub SpellsAsked : List ℕ → Message → Type 0
SpellsAsked bytes m = SpellsMessage bytes m × IsAsked m

-- why bytes aren't asked: they are a text of no message that a client sends; want of memory can be met at any
abbrev pub IsUnasked : List ℕ → NoReason → Type 0
IsUnasked bytes NotRead = (m : Message) → SpellsAsked bytes m → ⊥
IsUnasked bytes Memory = Unit {0}
IsUnasked bytes _ = ⊥

-- why bytes are refused that `decode` refuses so: for want of memory, or since they can't be read
abbrev pub reason_of_wire_error : WireError → NoReason
reason_of_wire_error wire.Memory = Memory
reason_of_wire_error _ = NotRead

-- the message ends an answer
abbrev pub EndsAnswer : Message → Type 0
EndsAnswer (Welcome client) = Unit {0}
EndsAnswer Idle = Unit {0}
EndsAnswer (No reason) = Unit {0}
EndsAnswer _ = ⊥

-- the messages are an answer: the last of them ends it, and no other
abbrev pub IsAnswer : List Message → Type 0
IsAnswer [] = ⊥
IsAnswer (m ∷ []) = EndsAnswer m
IsAnswer (m ∷ n ∷ ms) = (EndsAnswer m → ⊥) × IsAnswer (n ∷ ms)

-- the messages are the beginning of an answer: none of them ends it
abbrev pub IsBegun : List Message → Type 0
IsBegun [] = Unit {0}
IsBegun (m ∷ ms) = (EndsAnswer m → ⊥) × IsBegun ms

-- the beginning of an answer became an answer, where its last message came, or a longer beginning
abbrev pub Extends : Bool → List Message → List Message → Type 0
Extends true old new = IsBegun old → IsAnswer new
Extends false old new = IsBegun old → IsBegun new

-- the messages were decoded, and are an answer
abbrev pub IsDecodedAnswer : List Message → Type 0
IsDecodedAnswer answer = IsAnswer answer × AreDecoded answer

-- a No for this reason, alone
abbrev pub refusal_alone : NoReason → List Message
refusal_alone reason = No (number_of reason) ∷ []

-- What is answered to bytes: what is given to the message that they spell; NotRead, where they spell none that a client sends, and
-- nothing has changed; or Memory.
module _ {S : Type 0} (Gives : S → Message → List Message → S → Type 0) where
  abbrev pub Replies : S → List ℕ → List Message → S → Type 0
  Replies old bytes answer new =
      ((m : Message) × SpellsAsked bytes m × Gives old m answer new)
      ⊎ (IsUnasked bytes NotRead × (answer ≡ refusal_alone NotRead) × (new ≡ old))
      ⊎ (answer ≡ refusal_alone Memory)

-- each text is what is written of the message beside it
abbrev pub AreMessageTexts : List (List ℕ) → List Message → Type 0
AreMessageTexts [] [] = Unit {0}
AreMessageTexts [] (m ∷ ms) = ⊥
AreMessageTexts (t ∷ ts) [] = ⊥
AreMessageTexts (t ∷ ts) (m ∷ ms) = EncodesMessage t m × AreMessageTexts ts ms

-- THE TEXTS OF AN ANSWER

module _ {S : Type 0} (Gives : S → Message → List Message → S → Type 0) where
  -- the texts of what is given to a message
  abbrev pub GivesTexts : S → Message → List (List ℕ) → S → Type 0
  GivesTexts old m texts new = (answer : List Message) × Gives old m answer new × IsAnswer answer × AreMessageTexts texts answer

  -- the texts of what is answered to bytes
  abbrev pub RepliesTexts : S → List ℕ → List (List ℕ) → S → Type 0
  RepliesTexts old bytes texts new = (answer : List Message) × Replies Gives old bytes answer new × AreMessageTexts texts answer
