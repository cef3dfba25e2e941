-- The laws of the wire. Each is a clause of a function of empty body.
use Rattle.std.specs.Prelude.{◌≡◌, ◌+◌, ◌<◌, ◌≤◌, ℕ, List}
use Rattle.canvas_model.specs.declared.ObjId.{ObjId}
use Rattle.canvas_model.specs.Document.{Object}
use Rattle.canvas_model.specs.State.{State, done}
use Rattle.canvas_model.specs.Log.{Entry, Fits, FitsSome, effect, last_version}
use Rattle.canvas_model.specs.Storable.{IsStorable}
use Rattle.canvas_model.specs.Messages.{Message}
use Rattle.canvas_codec.specs.Codec.{IsCodec}
use Rattle.canvas_forms.specs.Version.{Version}
use Rattle.canvas_forms.specs.Rows.{row_form}
use Rattle.canvas_forms.specs.Entries.{entry_form}
use Rattle.canvas_wire.specs.Messages.{parts_form}
use Rattle.canvas_wire.specs.Checkpoints.{Checkpoint, checkpoint_form}
use Rattle.canvas_wire.specs.Heads.{Head, head_form}
use Rattle.canvas_forms.specs.EntryTexts.{IsShallowEntry, EncodesEntry, IsEntryInRange}
use Rattle.canvas_wire.specs.Text.{SpellsEntry, IsShallowMessage, SpellsMessage, EncodesMessage, IsMessageInRange, SpellsCheckpoint, SpellsHead, EncodesHead, IsHeadInRange, IsRow, IsShallowRow, SpellsRow, EncodesRow}

-- entries have a form in each version whose reasons are those that are known
abbrev pub EntriesAreForms : Type 0
EntriesAreForms = (v : Version) → v.last_reason ≤ 8 → IsCodec (entry_form v)

-- what is written of an entry spells it, where its numbers are in range and its value isn't too deep
abbrev pub EntriesComeBack : Type 0
EntriesComeBack = (bytes : List ℕ) (e : Entry) → EncodesEntry bytes e → IsEntryInRange e → IsShallowEntry e → SpellsEntry bytes e

-- bytes spell one entry at most
abbrev pub BytesSpellOneEntry : Type 0
BytesSpellOneEntry = (bytes : List ℕ) (e f : Entry) → SpellsEntry bytes e → SpellsEntry bytes f → e ≡ f

-- what is written of an entry that may come next after a storable state spells it
abbrev pub NextEntriesComeBack : Type 0
NextEntriesComeBack = (bytes : List ℕ) (e : Entry) (s : State) (version : ℕ) → EncodesEntry bytes e → IsStorable s version → Fits s e → version < last_version → SpellsEntry bytes e

-- an entry that was read and may come next by one of the rules keeps the state of a version storable
abbrev pub ReadEntriesKeepStorable : Type 0
ReadEntriesKeepStorable = (bytes : List ℕ) (e : Entry) (s : State) (version : ℕ) → SpellsEntry bytes e → IsStorable s version → FitsSome s e → version < last_version → IsStorable (effect s e) (version + 1)

-- the parts of messages have a form in each version whose reasons are those that are known
abbrev pub MessagesAreForms : Type 0
MessagesAreForms = (v : Version) → v.last_reason ≤ 8 → IsCodec (parts_form v)

-- what is written of a message spells it, where its numbers are in range and its values aren't too deep
abbrev pub MessagesComeBack : Type 0
MessagesComeBack = (bytes : List ℕ) (m : Message) → EncodesMessage bytes m → IsMessageInRange m → IsShallowMessage m → SpellsMessage bytes m

-- bytes spell one message at most
abbrev pub BytesSpellOneMessage : Type 0
BytesSpellOneMessage = (bytes : List ℕ) (m n : Message) → SpellsMessage bytes m → SpellsMessage bytes n → m ≡ n

-- the parts of checkpoints have a form in each version
abbrev pub CheckpointsAreForms : Type 0
CheckpointsAreForms = (v : Version) → IsCodec (checkpoint_form v)

-- bytes spell one checkpoint at most
abbrev pub BytesSpellOneCheckpoint : Type 0
BytesSpellOneCheckpoint = (bytes : List ℕ) (c d : Checkpoint) → SpellsCheckpoint bytes c → SpellsCheckpoint bytes d → c ≡ d

-- a checkpoint that was read is storable, where no client has done more than there are entries
abbrev pub ReadCheckpointsAreStorable : Type 0
ReadCheckpointsAreStorable = (bytes : List ℕ) (s : State) (version : ℕ) → SpellsCheckpoint bytes (s, version) → ((client : ℕ) → done s client ≤ version) → IsStorable s version

-- heads have a form
abbrev pub HeadsAreForms : Type 0
HeadsAreForms = IsCodec head_form

-- what is written of a head spells it, where its numbers are in range
abbrev pub HeadsComeBack : Type 0
HeadsComeBack = (bytes : List ℕ) (h : Head) → EncodesHead bytes h → IsHeadInRange h → SpellsHead bytes h

-- bytes spell one head at most
abbrev pub BytesSpellOneHead : Type 0
BytesSpellOneHead = (bytes : List ℕ) (h k : Head) → SpellsHead bytes h → SpellsHead bytes k → h ≡ k

-- the head of a state at a version, which so many rows follow
abbrev pub head_of_state : State → ℕ → ℕ → Head
head_of_state s version count = record { version = version; clients = s.clients; count = count }

-- what is written of the head of a storable state spells it, where rows follow, and no more than a log has entries
abbrev pub StorableHeadsComeBack : Type 0
StorableHeadsComeBack = (bytes : List ℕ) (s : State) (version count : ℕ) → EncodesHead bytes (head_of_state s version count) → IsStorable s version → 1 ≤ count → count ≤ last_version
    → SpellsHead bytes (head_of_state s version count)

-- no text is both a checkpoint in one text and a head
abbrev pub NoTextIsBoth : Type 0
NoTextIsBoth = (bytes : List ℕ) (c : Checkpoint) (h : Head) → SpellsCheckpoint bytes c → SpellsHead bytes h → ⊥

-- rows have a form
abbrev pub RowsAreForms : Type 0
RowsAreForms = IsCodec row_form

-- what is written of a row spells it, where only the root is a document without a place and its values aren't too deep
abbrev pub RowsComeBack : Type 0
RowsComeBack = (bytes : List ℕ) (row : ObjId × Object) → EncodesRow bytes row → IsRow row → IsShallowRow row → SpellsRow bytes row

-- bytes spell one row at most
abbrev pub BytesSpellOneRow : Type 0
BytesSpellOneRow = (bytes : List ℕ) (a b : ObjId × Object) → SpellsRow bytes a → SpellsRow bytes b → a ≡ b

-- what bytes spell is the root, a document without a place, or another object, which has a place
abbrev pub RowsAreRows : Type 0
RowsAreRows = (bytes : List ℕ) (row : ObjId × Object) → SpellsRow bytes row → IsRow row
