-- What a server does on a connection.
use Rattle.std.specs.Prelude.{◌≡◌, ◌⊎◌, ℕ, zero, suc, ◌<◌, Bool, true, false, List, [], ◌∷◌, ◌++◌, Option, Ok, Err}
use Rattle.tungstenite.specs.Connection.{write_step}
use Rattle.tungstenite.specs.Content.{Content, text, binary, ping, pong, close}
use Rattle.tungstenite.specs.Failure.{IsIo}
use Rattle.tungstenite.specs.Socket.{Socket, Writes, Flushed, Reads, content_of}
use Rattle.tungstenite.specs.declared.error.Error.{Error}
use Rattle.tungstenite.specs.declared.error.Error.TheVariants.{OutOfMemory, WriteBufferFull}
use Rattle.tungstenite.specs.declared.message.Message.{Message as Frame}
use Rattle.canvas_model.specs.Messages.{Message}
use Rattle.canvas_judge.specs.declared.message.NoReason.TheVariants.{NotRead}
use Rattle.canvas_nodes.specs.Answers.{AreMessageTexts, Replies, refusal_alone}

module _ {S : Type 0} (contents : S → Option (List ℕ)) where
  -- each of these texts joined the output as a binary message, one after the other; some of the output may have left
  abbrev pub WritesEach : Socket S → List (List ℕ) → Socket S → Type 0
  WritesEach old [] new = new ≡ old
  WritesEach old (t ∷ ts) new = (mid : Socket S) × Writes contents old mid (write_step old.conn (binary t)) × WritesEach mid ts new

  -- what waited has left
  abbrev pub Empties : Socket S → Socket S → Type 0
  Empties old new = Flushed contents old new × (new.output ≡ [])

  -- each of these texts joined the output as a binary message, one after the other, and all of it has left
  abbrev pub SendsEachText : Socket S → List (List ℕ) → Socket S → Type 0
  SendsEachText old ts new = (mid : Socket S) × WritesEach old ts mid × Empties mid new

  -- the texts of these messages have left
  abbrev pub SendsAnswer : Socket S → List Message → Socket S → Type 0
  SendsAnswer old answer new = (ts : List (List ℕ)) × AreMessageTexts ts answer × SendsEachText old ts new

  -- a text didn't leave as a binary message: nothing has changed where the output was full or memory was refused; where the stream failed, the
  -- message joined the output, and some of that may have left
  pub record RefusesText (old : Socket S) (t : List ℕ) (e : Error) (new : Socket S) : Type 0 where
    pub full : e ≡ WriteBufferFull → new ≡ old
    pub memory : e ≡ OutOfMemory → new ≡ old
    pub failed : IsIo e → Writes contents old new (write_step old.conn (binary t))

  -- some of these texts joined the output as binary messages, one after the other, and the next one didn't leave
  pub record StopsWriting (old : Socket S) (ts : List (List ℕ)) (e : Error) (new : Socket S) : Type 0 where
    pub done : List (List ℕ)
    pub next : List ℕ
    pub rest : List (List ℕ)
    pub mid : Socket S
    pub are : ts ≡ done ++ next ∷ rest
    pub wrote : WritesEach old done mid
    pub refuses : RefusesText mid next e new

  -- one of these texts didn't leave, or all joined the output, and the stream failed while they left
  abbrev pub StopsSending : Socket S → List (List ℕ) → Error → Socket S → Type 0
  StopsSending old ts e new = StopsWriting old ts e new ⊎ ((mid : Socket S) × WritesEach old ts mid × Flushed contents mid new × IsIo e)

  -- the texts of these messages didn't all leave
  abbrev pub StopsAnswer : Socket S → List Message → Error → Socket S → Type 0
  StopsAnswer old answer e new = (ts : List (List ℕ)) × AreMessageTexts ts answer × StopsSending old ts e new

module _ {A S : Type 0} (Gives : A → Message → List Message → A → Type 0) (remaining contents : S → Option (List ℕ)) where
  -- what a frame makes of the answerer and the socket, and whether the connection goes on: a binary message has its reply, a text is refused as
  -- NotRead, a ping and a pong are passed over, and a closing frame ends it
  abbrev pub Handles : Content → Bool → A → Socket S → A → Socket S → Type 0
  Handles (binary bytes) on old before new after = (on ≡ true) × ((answer : List Message) × Replies Gives old bytes answer new × SendsAnswer contents before answer after)
  Handles (text bytes) on old before new after = (on ≡ true) × (new ≡ old) × SendsAnswer contents before (refusal_alone NotRead) after
  Handles (ping bytes) on old before new after = (on ≡ true) × (new ≡ old) × (after ≡ before)
  Handles (pong bytes) on old before new after = (on ≡ true) × (new ≡ old) × (after ≡ before)
  Handles (close frame) on old before new after = (on ≡ false) × (new ≡ old) × Empties contents before after

  -- a frame was read and handled, and then the connection goes on, or doesn't
  abbrev pub Turns : Bool → A → Socket S → A → Socket S → Type 0
  Turns on old before new after = (mid : Socket S) × (frame : Frame) × Reads remaining before mid (Ok frame) × Handles (content_of frame) on old mid new after

  -- so many frames were read and handled, one after the other, and the connection goes on
  abbrev pub GoesThrough : ℕ → A → Socket S → A → Socket S → Type 0
  GoesThrough zero old before new after = (new ≡ old) × (after ≡ before)
  GoesThrough (suc n) old before new after = (a : A) × (s : Socket S) × GoesThrough n old before a s × Turns true a s new after

  -- frames were read and handled, one after the other, up to the one of this number, or up to a closing frame before it
  abbrev pub Serves : ℕ → A → Socket S → A → Socket S → Type 0
  Serves most old before new after =
      (n : ℕ) × (a : A) × (s : Socket S) × GoesThrough n old before a s
      × (((n ≡ most) × (new ≡ a) × (after ≡ s)) ⊎ ((n < most) × Turns false a s new after))

  -- a frame wasn't handled to its end: the answer to a message didn't leave whole, or what waited didn't leave before a closing frame
  abbrev pub StopsHandling : Content → Error → A → Socket S → A → Socket S → Type 0
  StopsHandling (binary bytes) e old before new after = (answer : List Message) × Replies Gives old bytes answer new × StopsAnswer contents before answer e after
  StopsHandling (text bytes) e old before new after = (new ≡ old) × StopsAnswer contents before (refusal_alone NotRead) e after
  StopsHandling (ping bytes) e old before new after = ⊥
  StopsHandling (pong bytes) e old before new after = ⊥
  StopsHandling (close frame) e old before new after = (new ≡ old) × Flushed contents before after × IsIo e

  -- a frame wasn't read, or it was, and wasn't handled to its end
  abbrev pub StopsTurn : Error → A → Socket S → A → Socket S → Type 0
  StopsTurn e old before new after =
      ((new ≡ old) × Reads remaining before after (Err e))
      ⊎ ((mid : Socket S) × (frame : Frame) × Reads remaining before mid (Ok frame) × StopsHandling (content_of frame) e old mid new after)

  -- frames were read and handled, one after the other and fewer than so many, and the next one wasn't: so what left is a beginning of the answers
  abbrev pub StopsServing : ℕ → Error → A → Socket S → A → Socket S → Type 0
  StopsServing most e old before new after =
      (n : ℕ) × (a : A) × (s : Socket S) × (n < most) × GoesThrough n old before a s × StopsTurn e a s new after
