use Rattle.std.proofs.Common.{ℕ, Bool, false, List, [], ◌++◌, refl, ap, sym, subst, ◌∙◌, append-nil}
use Rattle.websocket.specs.Connection.{write_step}
use Rattle.websocket.specs.View.{Leaves}
use Rattle.tungstenite.specs.Socket.{Socket, content_of}
use Rattle.net_frames.specs.Writers.{conn_of}
use Rattle.net_frames.proofs.Frames.{closes, wrote}
use Rattle.net_frames.proofs.FrameWriter.write.Goals as goal

-- the frame joined the stream
pub returns-clause-wrote : goal.returns-clause-wrote
returns-clause-wrote g c =
    let content = content_of c.args.message in
    let new : Socket g.row.S.Denot = record { stream = c.write_shared.new.self; conn = conn_of c.is_close-self-inside.result; input = []; output = [] } in
    let left = subst (λ (b : Bool). Leaves (write_step (conn_of false) content) (conn_of b) [] c.in_ok-frame.frame.items) (sym (c.is_close-self-inside.ensures ∙ closes c.args.message)) c.in_ok-frame.ensures in
    let joined = ap (λ (l : List ℕ). c.deref.result.now ++ l) c.new-nothing.ensures ∙ append-nil c.deref.result.now ∙ c.deref.ensures.value in
    rw (← c.self.view_is)
    (wrote g.S.Write.contents (record { stream = c.self.inside.stream; conn = conn_of c.self.inside.has_closed; input = []; output = [] }) new content c.in_ok-frame.frame.items _ (ap conn_of c.if-self.false) refl refl refl left joined c.in_ok-write_shared.ensures.ok)
