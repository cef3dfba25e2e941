-- How the protocol stands of a server that only writes.
use Rattle.std.specs.Prelude.{Bool, cond, false, None}
use Rattle.websocket.specs.Connection.{Connection}
use Rattle.websocket.specs.declared.protocol.config.Role.TheVariants.{Server}
use Rattle.websocket.specs.declared.protocol.state.WebSocketState.TheVariants.{Active, ClosedByUs}

-- it is active until a closing frame was written; nothing is read, so it has no limits
abbrev pub conn_of : Bool → Connection
conn_of has_closed = record {
  role = Server;
  state = cond has_closed ClosedByUs Active;
  config = record { max_message_size = None; max_frame_size = None; accept_unmasked_frames = false };
  fragments = None;
}
