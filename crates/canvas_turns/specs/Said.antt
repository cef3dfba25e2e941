-- The bytes of a connection: what was said is the replies to what was read and what is told unasked, and what joined the output is its frames.
use Rattle.std.specs.Prelude.{◌≡◌, ◌⊎◌, ℕ, ◌+◌, List, [], ◌∷◌, ◌++◌, Option, None, Some, map, slice_get, take}
use Rattle.std.specs.Io.KnownBytes.{Appends, append_known}
use Rattle.websocket.specs.Connection.{whole_header}
use Rattle.websocket.specs.Content.{content_opcode, content_payload}
use Rattle.websocket.specs.Frame.{encode_frame}
use Rattle.websocket.specs.declared.protocol.config.Role.TheVariants as role
use Rattle.tungstenite.specs.Content.{Content, text, binary, ping, pong, close}
use Rattle.tungstenite.specs.Socket.{Socket}
use Rattle.canvas_model.specs.Messages.{Message}
use Rattle.canvas_judge.specs.declared.message.NoReason.TheVariants.{NotRead}
use Rattle.canvas_nodes.specs.Answers.{AreMessageTexts, refusal_alone}
use Rattle.net_outbox.specs.Outboxes.{contents_of}
use Rattle.canvas_turns.specs.Lines.{OpenLine}
use Rattle.canvas_turns.specs.Served.{StepsTimes}
use Rattle.canvas_turns.specs.Told.{AreAll, version_told}

-- the frame of a server that carries this content
abbrev pub frame_of : Content → List ℕ
frame_of c = encode_frame (whole_header (content_opcode c) None) (content_payload c)

-- the frames of these contents, one after the other
abbrev pub frames_of : List Content → List ℕ
frames_of [] = []
frames_of (c ∷ cs) = frame_of c ++ frames_of cs

-- all bytes that joined what a socket writes, where its stream tells them: those that the stream holds, and then those that wait in the socket
abbrev pub joined : {S : Type 0} → (S → Option (List ℕ)) → Socket S → Option (List ℕ)
joined contents s = append_known (contents s.stream) s.output

-- these contents are binary messages, the texts of these messages
abbrev pub AreSaid : List Content → List Message → Type 0
AreSaid said answer = (ts : List (List ℕ)) × AreMessageTexts ts answer × (said ≡ map binary ts)

-- what happens at a connection: a frame was read, something is published, something is whispered, the peer is pinged, or its handler served others
pub data Event : Type 0 where
  Heard : Content → Event
  Published : Event
  Whispered : Event
  Quiet : Event
  Elsewhere : Event

module _ {A : Type 0} (Replies : A → List ℕ → List Message → A → Type 0) (Tells : A → List Message → A → Type 0) (GoesTo : A → ℕ → A → Type 0) (Whispers : List ℕ → Type 0)
    (Between : A → A → Type 0) where
  -- what is said to a frame that was read: the reply to a binary message, a No for NotRead to a text, a pong to a ping, nothing to a pong, and a
  -- closing frame to one
  abbrev pub SaysTo : Content → A → List Content → A → Type 0
  SaysTo (binary bytes) old said new = (answer : List Message) × Replies old bytes answer new × AreSaid said answer
  SaysTo (text bytes) old said new = (new ≡ old) × AreSaid said (refusal_alone NotRead)
  SaysTo (ping bytes) old said new = (new ≡ old) × (said ≡ pong bytes ∷ [])
  SaysTo (pong bytes) old said new = (new ≡ old) × (said ≡ [])
  SaysTo (close frame) old said new = (new ≡ old) × (said ≡ close frame ∷ [])

  -- Of what there is to tell, the messages up to this one are said, and its client was told all up to the version that this one leads to.
  pub record SaysUnasked (old : A) (said : List Content) (new : A) : Type 0 where
    pub told : List Message
    pub looked : A
    pub finds : Tells old told looked
    pub place : ℕ
    pub last : Message
    pub is_last : slice_get told place ≡ Some last
    pub are : AreSaid said (take (place + 1) told)
    pub moved : GoesTo looked (version_told last) new

  -- what an event has said: the reply to a frame; what is published, or nothing, if there is nothing; what is whispered, by which nothing has
  -- changed; a ping; or nothing, where others were served
  abbrev pub Says : Event → A → List Content → A → Type 0
  Says (Heard c) old said new = SaysTo c old said new
  Says Published old said new = SaysUnasked old said new ⊎ ((said ≡ []) × Tells old [] new)
  Says Whispered old said new = (new ≡ old) × ((ts : List (List ℕ)) × AreAll Whispers ts × (said ≡ map binary ts))
  Says Quiet old said new = (new ≡ old) × (said ≡ ping [] ∷ [])
  Says Elsewhere old said new = (said ≡ []) × Between old new

  -- what events have said, one after the other
  abbrev pub SaysEach : List Event → A → List Content → A → Type 0
  SaysEach [] old said new = (said ≡ []) × (new ≡ old)
  SaysEach (e ∷ es) old said new = (a : A) × (first rest : List Content) × (said ≡ first ++ rest) × Says e old first a × SaysEach es a rest new

module _ {A I O : Type 0} (Replies : A → List ℕ → List Message → A → Type 0) (Tells : A → List Message → A → Type 0) (GoesTo : A → ℕ → A → Type 0)
    (Whispers : List ℕ → Type 0) (Between : A → A → Type 0) (remaining : I → Option (List ℕ)) (contents : O → Option (List ℕ)) where
  -- NO BYTE IS LOST, DOUBLED OR TURNED: after any steps, what the peer got and then what waits has grown by the frames of what was said, and that is,
  -- event by event, the replies to what was read and what was told unasked or whispered, whomever its handler served between.
  abbrev pub NoByteIsLost : Type 0
  NoByteIsLost =
      (n : ℕ) (old new : A) (before after : OpenLine I O) → before.writer.conn.role ≡ role.Server → StepsTimes Replies Tells GoesTo Whispers remaining contents Between n old before new after
      → (events : List Event) × (said : List Content) × SaysEach Replies Tells GoesTo Whispers Between events old said new
      × Appends (joined (contents_of contents) before.writer) (joined (contents_of contents) after.writer) (frames_of said)
