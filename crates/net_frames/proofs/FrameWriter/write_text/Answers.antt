use Rattle.std.proofs.Common.{[], ◌++◌, List, ℕ, false, refl, ap, subst, sym}
use Rattle.tungstenite.specs.Content.{binary}
use Rattle.tungstenite.specs.Socket.{Socket}
use Rattle.websocket.specs.Connection.{Connection, write_step}
use Rattle.websocket.specs.View.{Leaves}
use Rattle.net_frames.specs.Writers.{conn_of}
use Rattle.net_frames.proofs.Frames.{leaves_binary, wrote}
use Rattle.net_frames.proofs.FrameWriter.write_text.Goals as goal

-- the frame joined the stream
pub returns-clause-wrote : goal.returns-clause-wrote
returns-clause-wrote g c =
    let payload = c.args.own.now ++ c.args.shared.now in
    let before : Socket g.row.S.Denot = record { stream = c.self.inside.stream; conn = conn_of c.self.inside.has_closed; input = []; output = [] } in
    let new : Socket g.row.S.Denot = record { stream = c.write_shared.new.self; conn = conn_of c.self.inside.has_closed; input = []; output = [] } in
    let frame = c.in_ok-begun.begun.items ++ c.args.shared.now in
    let left = subst (λ (conn : Connection). Leaves (write_step (conn_of false) (binary payload)) conn [] frame) (sym (ap conn_of c.if-self.false)) (leaves_binary payload frame c.in_ok-begun.ensures) in
    let joined = ap (λ (l : List ℕ). l ++ c.args.shared.now) c.deref.ensures.value in
    rw (← c.self.view_is) (wrote g.S.Write.contents before new (binary payload) frame _ (ap conn_of c.if-self.false) refl refl refl left joined c.in_ok-write_shared.ensures.ok)
