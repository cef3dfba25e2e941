-- The sockets of a connection that is served turn by turn.
use Rattle.std.specs.Prelude.{◌≡◌, ◌⊎◌, [], true, false}
use Rattle.std.specs.declared.io.impls.Sink.{Sink}
use Rattle.websocket.specs.declared.protocol.config.Role.TheVariants as role
use Rattle.tungstenite.specs.Socket.{Socket, IsFresh}
use Rattle.tungstenite.specs.declared.error.Error.{Error}
use Rattle.tungstenite.specs.declared.error.Error.TheVariants.{Capacity, Io, OutOfMemory}
use Rattle.tungstenite.specs.declared.stream.Duplex.{Duplex}
use Rattle.net_idle.specs.Frames.{HasFollowedBytes}
use Rattle.net_idle.specs.declared.Pausing.{Pausing}
use Rattle.net_outbox.specs.Outboxes.{waiting_bytes}
use Rattle.net_outbox.specs.declared.outbox.Outbox.{Outbox}
use Rattle.canvas_sockets.specs.declared.line.Line.{Line}
use Rattle.canvas_turns.specs.declared.waits.LineEnd.{LineEnd}
use Rattle.canvas_turns.specs.declared.waits.LineEnd.TheVariants as end

-- how a connection has ended that this error ended
abbrev pub end_of : Error → LineEnd
end_of (Capacity cause) = end.TooLarge
end_of (Io cause) = end.Failed
end_of OutOfMemory = end.Memory
end_of _ = end.Broken

-- what a line reads from: a stream that pauses; what its socket answers by itself goes nowhere
abbrev pub Inlet : Type 0 → Type 0
Inlet I = Duplex (Pausing I) Sink

-- a line that reads from such a stream, and writes into an outbox
abbrev pub OpenLine : Type 0 → Type 0 → Type 0
OpenLine I O = Line (Inlet I) (Outbox O)

module _ {I O : Type 0} where
  -- Both sockets are new, over these streams: nothing was read since the handshake, and nothing waits.
  pub record IsFreshLine (line : OpenLine I O) (input : I) (output : O) : Type 0 where
    pub inlet : Inlet I
    pub outlet : Outbox O
    pub reads : IsFresh line.reader inlet role.Server
    pub from_input : inlet.reader.stream ≡ input
    pub nothing_came : HasFollowedBytes inlet.reader.frames []
    pub writes : IsFresh line.writer outlet role.Server
    pub to_output : outlet.stream ≡ output
    pub nothing_waits : waiting_bytes outlet ≡ []

module _ {I : Type 0} where
  -- The next reader is new, over the stream on which this one has paused, and that goes on where it was.
  pub record IsBehindPause (paused next : Socket (Inlet I)) : Type 0 where
    pub has_paused : paused.stream.reader.has_paused ≡ true
    pub stream : Inlet I
    pub same : stream.reader.stream ≡ paused.stream.reader.stream
    pub frames : stream.reader.frames ≡ paused.stream.reader.frames
    pub fresh : IsFresh next stream role.Server

  -- the reader goes on, by a new one if it has paused
  abbrev pub IsNextReader : Socket (Inlet I) → Socket (Inlet I) → Type 0
  IsNextReader old next = ((old.stream.reader.has_paused ≡ false) × (next ≡ old)) ⊎ IsBehindPause old next

module _ {O : Type 0} where
  -- the writer goes on by a new one over the same outbox, since nothing waits in itself
  abbrev pub IsNextWriter : Socket (Outbox O) → Socket (Outbox O) → Type 0
  IsNextWriter old next = (old.output ≡ []) × IsFresh next old.stream role.Server

-- new sockets go on where these stand
abbrev pub IsNextLine : {I O : Type 0} → OpenLine I O → OpenLine I O → Type 0
IsNextLine old next = IsNextReader old.reader next.reader × IsNextWriter old.writer next.writer
