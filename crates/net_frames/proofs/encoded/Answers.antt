use Rattle.std.proofs.Common.{false, [], subst}
use Rattle.websocket.specs.Connection.{Connection, write_step}
use Rattle.websocket.specs.View.{Leaves}
use Rattle.tungstenite.specs.Socket.{content_of}
use Rattle.net_frames.specs.Writers.{conn_of}
use Rattle.net_frames.proofs.Frames.{stands_as}
use Rattle.net_frames.proofs.encoded.Goals as goal

-- the frame that the protocol's state machine leaves, and how it stands then
pub returns : goal.returns
returns c =
    let content = content_of c.args.message.now in
    let left = rw (c.new-context.ensures, c.as_frame.ensures, c.new-frame.ensures.items) at c.in_ok-write.ensures.ok in
    subst (λ (conn : Connection). Leaves (write_step (conn_of false) content) conn [] c.write.new.output.items) (stands_as content c.write.new.self c.write.new.output.items left) left
