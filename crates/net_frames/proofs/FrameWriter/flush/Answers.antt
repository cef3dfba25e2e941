use Rattle.std.proofs.Common.{[], refl}
use Rattle.tungstenite.specs.Socket.{Socket}
use Rattle.net_frames.specs.Writers.{conn_of}
use Rattle.net_frames.proofs.Frames.{flushed}
use Rattle.net_frames.proofs.FrameWriter.flush.Goals as goal

-- what its stream holds is the same, whether or not that failed
pub returns-clause-sent : goal.returns-clause-sent
returns-clause-sent g c =
    let before : Socket g.row.S.Denot = record { stream = c.self.inside.stream; conn = conn_of c.self.inside.has_closed; input = []; output = [] } in
    let new : Socket g.row.S.Denot = record { stream = c.flush.new.self; conn = conn_of c.self.inside.has_closed; input = []; output = [] } in
    rw (← c.self.view_is) (flushed g.S.Write.contents before new refl refl refl refl c.flush.ensures.bytes)
