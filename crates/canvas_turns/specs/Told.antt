-- What a connection tells unasked.
use Rattle.std.specs.Prelude.{◌≡◌, ◌⊎◌, ℕ, ◌+◌, ◌<◌, Bool, true, false, List, [], ◌∷◌, Option, Some, map, slice_get, take}
use Rattle.tungstenite.specs.Content.{ping}
use Rattle.tungstenite.specs.Failure.{IsIo}
use Rattle.tungstenite.specs.Socket.{Flushed}
use Rattle.tungstenite.specs.declared.error.Error.{Error}
use Rattle.tungstenite.specs.declared.error.Error.TheVariants.{OutOfMemory}
use Rattle.canvas_model.specs.Messages.{Message}
use Rattle.canvas_model.specs.Messages as messages
use Rattle.canvas_nodes.specs.Answers.{AreMessageTexts}
use Rattle.canvas_sockets.specs.Served.{StopsWriting, WritesEach}
use Rattle.canvas_sockets.specs.Turned.{PutsFrame}
use Rattle.net_outbox.specs.Outboxes.{contents_of}
use Rattle.canvas_turns.specs.Lines.{OpenLine}

-- the version that a message leads to whoever is told it: that of an entry, or of a copy
abbrev pub version_told : Message → ℕ
version_told (messages.Entry version entry) = version
version_told (messages.Copy version done doc) = version
version_told _ = 0

-- the texts of the first messages of what there is to tell, one at least if there is one, and the version that each leads to
abbrev pub TellsInTexts : {A : Type 0} → (A → List Message → A → Type 0) → A → List (List ℕ) → List ℕ → A → Type 0
TellsInTexts Tells old texts versions new =
    (told : List Message) × (n : ℕ) × (0 < n) × Tells old told new × AreMessageTexts texts (take n told) × (versions ≡ map version_told (take n told))

-- each of these texts is such a one
abbrev pub AreAll : (List ℕ → Type 0) → List (List ℕ) → Type 0
AreAll Is [] = Unit {0}
AreAll Is (t ∷ ts) = Is t × AreAll Is ts

module _ {O : Type 0} (contents : O → Option (List ℕ)) where
  -- the peer took some of what was written, and the rest waits in the outbox
  abbrev pub LeavesSome : {I : Type 0} → OpenLine I O → OpenLine I O → Type 0
  LeavesSome before after = Flushed (contents_of contents) before.writer after.writer × (after.writer.output ≡ []) × (after.reader ≡ before.reader)

  -- a ping without bytes joined the output
  abbrev pub Pings : {I : Type 0} → OpenLine I O → OpenLine I O → Type 0
  Pings before after = PutsFrame (contents_of contents) before.writer (ping []) after.writer × (after.reader ≡ before.reader)

module _ {I O : Type 0} (Whispers : List ℕ → Type 0) (contents : O → Option (List ℕ)) where
  -- such texts joined the output
  abbrev pub WhispersSome : OpenLine I O → OpenLine I O → Type 0
  WhispersSome before after = (texts : List (List ℕ)) × AreAll Whispers texts × WritesEach (contents_of contents) before.writer texts after.writer × (after.reader ≡ before.reader)

  -- something was whispered, and the peer took some of what was written; or nothing was
  abbrev pub MayWhisper : OpenLine I O → OpenLine I O → Type 0
  MayWhisper before after = (after ≡ before) ⊎ ((mid : OpenLine I O) × WhispersSome before mid × LeavesSome contents mid after)

  -- what is whispered didn't join the output, or didn't leave: memory was refused for it, or the socket failed
  abbrev pub StopsWhispering : Error → OpenLine I O → OpenLine I O → Type 0
  StopsWhispering e before after =
      ((e ≡ OutOfMemory) × (after ≡ before))
      ⊎ ((texts : List (List ℕ)) × AreAll Whispers texts × StopsWriting (contents_of contents) before.writer texts e after.writer)
      ⊎ ((mid : OpenLine I O) × WhispersSome before mid × Flushed (contents_of contents) mid.writer after.writer × IsIo e)

module _ {A I O : Type 0} (Tells : A → List Message → A → Type 0) (GoesTo : A → ℕ → A → Type 0) (contents : O → Option (List ℕ)) where
  -- Of what there is to tell, the messages up to this one joined the output, and its client was told all up to the version that this one leads to.
  pub record TellsSome (old : A) (before : OpenLine I O) (new : A) (after : OpenLine I O) : Type 0 where
    pub told : List Message
    pub looked : A
    pub finds : Tells old told looked
    pub place : ℕ
    pub last : Message
    pub is_last : slice_get told place ≡ Some last
    pub texts : List (List ℕ)
    pub are : AreMessageTexts texts (take (place + 1) told)
    pub wrote : WritesEach (contents_of contents) before.writer texts after.writer
    pub same : after.reader ≡ before.reader
    pub moved : GoesTo looked (version_told last) new

  -- nothing was told: it wasn't looked for, or there is nothing
  abbrev pub TellsNothing : A → OpenLine I O → A → OpenLine I O → Type 0
  TellsNothing old before new after = (after ≡ before) × ((new ≡ old) ⊎ Tells old [] new)

  -- something was told, and the peer took some of what was written; or nothing was
  abbrev pub MayTell : Bool → A → OpenLine I O → A → OpenLine I O → Type 0
  MayTell true old before new after = (mid : OpenLine I O) × TellsSome old before new mid × LeavesSome contents mid after
  MayTell false old before new after = TellsNothing old before new after

  -- some of what there is to tell didn't join the output
  abbrev pub StopsWritingTold : Error → A → OpenLine I O → A → OpenLine I O → Type 0
  StopsWritingTold e old before new after =
      (told : List Message) × (n : ℕ) × (texts : List (List ℕ)) × Tells old told new × AreMessageTexts texts (take n told) × StopsWriting (contents_of contents) before.writer texts e after.writer

  -- what is told didn't join the output, or didn't leave: memory was refused for it, or the socket failed
  abbrev pub StopsTelling : Error → A → OpenLine I O → A → OpenLine I O → Type 0
  StopsTelling e old before new after =
      ((e ≡ OutOfMemory) × TellsNothing old before new after)
      ⊎ StopsWritingTold e old before new after
      ⊎ ((mid : OpenLine I O) × TellsSome old before new mid × Flushed (contents_of contents) mid.writer after.writer × IsIo e)
