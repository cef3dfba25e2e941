-- What a turn of a connection does, on which no write waits.
use Rattle.std.specs.Prelude.{◌≡◌, ◌⊎◌, ℕ, zero, suc, ◌<◌, ◌≤◌, Bool, true, false, List, Option, Ok, Err}
use Rattle.std.specs.IoError.{error_kind}
use Rattle.std.specs.declared.io.ErrorKind.TheVariants.{WouldBlock}
use Rattle.tungstenite.specs.Connection.{write_step}
use Rattle.tungstenite.specs.Content.{Content, text, binary, ping, pong, close}
use Rattle.tungstenite.specs.Failure.{IsIo}
use Rattle.tungstenite.specs.Socket.{Socket, Reads, Writes, content_of}
use Rattle.tungstenite.specs.declared.error.Error.{Error}
use Rattle.tungstenite.specs.declared.error.Error.TheVariants.{Io, OutOfMemory, WriteBufferFull}
use Rattle.tungstenite.specs.declared.message.Message.{Message as Frame}
use Rattle.canvas_model.specs.Messages.{Message}
use Rattle.canvas_judge.specs.declared.message.NoReason.TheVariants.{NotRead}
use Rattle.canvas_nodes.specs.Answers.{AreMessageTexts, refusal_alone}
use Rattle.canvas_sockets.specs.Served.{WritesEach, StopsWriting}
use Rattle.canvas_sockets.specs.declared.line.Line.{Line}
use Rattle.canvas_sockets.specs.declared.turning.Taken.{Taken}
use Rattle.canvas_sockets.specs.declared.turning.Taken.TheVariants as taken
use Rattle.canvas_sockets.specs.declared.turning.TurnEnd.{TurnEnd}
use Rattle.canvas_sockets.specs.declared.turning.TurnEnd.TheVariants as end

-- a read failed since it would have waited
abbrev pub HasNotCome : Error → Type 0
HasNotCome (Io cause) = error_kind cause ≡ WouldBlock
HasNotCome _ = ⊥

-- the texts of a reply to bytes
abbrev pub RepliesInTexts : {A : Type 0} → (A → List ℕ → List Message → A → Type 0) → A → List ℕ → List (List ℕ) → A → Type 0
RepliesInTexts Replies old bytes texts new = (answer : List Message) × Replies old bytes answer new × AreMessageTexts texts answer

module _ {S : Type 0} (contents : S → Option (List ℕ)) where
  -- the texts of these messages joined the output, one after the other
  abbrev pub PutsAnswer : Socket S → List Message → Socket S → Type 0
  PutsAnswer old answer new = (ts : List (List ℕ)) × AreMessageTexts ts answer × WritesEach contents old ts new

  -- the texts of these messages didn't all join the output
  abbrev pub StopsPuttingAnswer : Socket S → List Message → Error → Socket S → Type 0
  StopsPuttingAnswer old answer e new = (ts : List (List ℕ)) × AreMessageTexts ts answer × StopsWriting contents old ts e new

  -- this frame joined the output; some of the output may have left
  abbrev pub PutsFrame : Socket S → Content → Socket S → Type 0
  PutsFrame old c new = Writes contents old new (write_step old.conn c)

  -- this frame didn't join the output, where that was full or memory was refused; where the stream failed, it did, and some of that may have left
  pub record RefusesFrame (old : Socket S) (c : Content) (e : Error) (new : Socket S) : Type 0 where
    pub full : e ≡ WriteBufferFull → new ≡ old
    pub memory : e ≡ OutOfMemory → new ≡ old
    pub failed : IsIo e → PutsFrame old c new

module _ {A S : Type 0} (Replies : A → List ℕ → List Message → A → Type 0) (contents : S → Option (List ℕ)) where
  -- what a frame makes of the replier and the socket that writes, and whether the connection goes on: the reply to a binary message joins the
  -- output, a text is refused as NotRead, a ping has a pong, a pong is passed over, and a closing frame is answered by one and ends it
  abbrev pub Puts : Content → Bool → A → Socket S → A → Socket S → Type 0
  Puts (binary bytes) on old before new after = (on ≡ true) × ((answer : List Message) × Replies old bytes answer new × PutsAnswer contents before answer after)
  Puts (text bytes) on old before new after = (on ≡ true) × (new ≡ old) × PutsAnswer contents before (refusal_alone NotRead) after
  Puts (ping bytes) on old before new after = (on ≡ true) × (new ≡ old) × PutsFrame contents before (pong bytes) after
  Puts (pong bytes) on old before new after = (on ≡ true) × (new ≡ old) × (after ≡ before)
  Puts (close frame) on old before new after = (on ≡ false) × (new ≡ old) × PutsFrame contents before (close frame) after

  -- the reply to a frame didn't join the output whole
  abbrev pub StopsPutting : Content → Error → A → Socket S → A → Socket S → Type 0
  StopsPutting (binary bytes) e old before new after = (answer : List Message) × Replies old bytes answer new × StopsPuttingAnswer contents before answer e after
  StopsPutting (text bytes) e old before new after = (new ≡ old) × StopsPuttingAnswer contents before (refusal_alone NotRead) e after
  StopsPutting (ping bytes) e old before new after = (new ≡ old) × RefusesFrame contents before (pong bytes) e after
  StopsPutting (pong bytes) e old before new after = ⊥
  StopsPutting (close frame) e old before new after = (new ≡ old) × RefusesFrame contents before (close frame) e after

module _ {A I O : Type 0} (Replies : A → List ℕ → List Message → A → Type 0) (remaining : I → Option (List ℕ)) (contents : O → Option (List ℕ)) where
  -- a frame was read, and the reply to it joined the output; then the connection goes on, or doesn't
  abbrev pub TakesFrame : Bool → A → Line I O → A → Line I O → Type 0
  TakesFrame on old before new after =
      (frame : Frame) × Reads remaining before.reader after.reader (Ok frame) × Puts Replies contents (content_of frame) on old before.writer new after.writer

  -- what was taken: nothing, since a read would have waited, a message, or a closing frame
  abbrev pub Takes : Taken → A → Line I O → A → Line I O → Type 0
  Takes taken.Nothing old before new after = (new ≡ old) × (after.writer ≡ before.writer) × ((e : Error) × HasNotCome e × Reads remaining before.reader after.reader (Err e))
  Takes taken.Message old before new after = TakesFrame true old before new after
  Takes taken.Close old before new after = TakesFrame false old before new after

  -- a frame wasn't read, or the reply to it didn't join the output whole
  abbrev pub StopsTaking : Error → A → Line I O → A → Line I O → Type 0
  StopsTaking e old before new after =
      ((new ≡ old) × (after.writer ≡ before.writer) × Reads remaining before.reader after.reader (Err e))
      ⊎ ((frame : Frame) × Reads remaining before.reader after.reader (Ok frame) × StopsPutting Replies contents (content_of frame) e old before.writer new after.writer)

module _ {A I O : Type 0} (Replies : A → List ℕ → List Message → A → Type 0) (remaining : I → Option (List ℕ)) (contents : O → Option (List ℕ)) (waits : O → ℕ) (room : ℕ) where
  -- so many messages were taken, one after the other, each while fewer bytes waited than there is room for
  abbrev pub TakesEach : ℕ → A → Line I O → A → Line I O → Type 0
  TakesEach zero old before new after = (new ≡ old) × (after ≡ before)
  TakesEach (suc n) old before new after = (a : A) × (l : Line I O) × TakesEach n old before a l × (waits l.writer.stream < room) × Takes Replies remaining contents taken.Message a l new after

  -- messages were taken, fewer than so many, and then this was, while there was room
  abbrev pub TakesUpTo : ℕ → Taken → A → Line I O → A → Line I O → Type 0
  TakesUpTo most last old before new after =
      (n : ℕ) × (a : A) × (l : Line I O) × (n < most) × TakesEach n old before a l × (waits l.writer.stream < room) × Takes Replies remaining contents last a l new after

  -- how a turn ends: with as many messages as it may take, or with fewer, since there is no room, no more has come, or a closing frame was read
  abbrev pub IsTurn : ℕ → TurnEnd → A → Line I O → A → Line I O → Type 0
  IsTurn most end.Most old before new after = TakesEach most old before new after
  IsTurn most end.Full old before new after = (n : ℕ) × (n < most) × TakesEach n old before new after × (room ≤ waits after.writer.stream)
  IsTurn most end.Dry old before new after = TakesUpTo most taken.Nothing old before new after
  IsTurn most end.Closed old before new after = TakesUpTo most taken.Close old before new after

  -- messages were taken, fewer than so many, and the next one wasn't, or wasn't answered whole
  abbrev pub StopsInTurn : ℕ → Error → A → Line I O → A → Line I O → Type 0
  StopsInTurn most e old before new after =
      (n : ℕ) × (a : A) × (l : Line I O) × (n < most) × TakesEach n old before a l × (waits l.writer.stream < room) × StopsTaking Replies remaining contents e a l new after
