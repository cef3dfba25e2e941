-- What is left by a server that writes a message.
use Rattle.std.proofs.Common.{◌≡◌, ℕ, Bool, true, false, List, [], ◌++◌, Option, None, Some, Ok, Err, refl, sym, ap, subst, ◌∙◌, append_assoc, append-nil}
use Rattle.std.specs.Io.KnownBytes.{Appends, Keeps}
use Rattle.websocket.specs.declared.error.Error.{Error}
use Rattle.websocket.specs.declared.protocol.config.Role.TheVariants.{Server}
use Rattle.websocket.specs.declared.protocol.frame.coding.Control.{Control}
use Rattle.websocket.specs.declared.protocol.frame.coding.Control.TheVariants as control_code
use Rattle.websocket.specs.declared.protocol.frame.coding.Data.TheVariants as data_code
use Rattle.websocket.specs.declared.protocol.frame.coding.OpCode.TheVariants as Op
use Rattle.websocket.specs.declared.protocol.state.WebSocketState.TheVariants.{ClosedByUs}
use Rattle.websocket.specs.Connection.{Connection, check_close, check_control_size, send, whole_header, write_step}
use Rattle.websocket.specs.Content.{close_payload}
use Rattle.websocket.specs.Frame.{Checked, after_check, encode_frame}
use Rattle.websocket.specs.View.{Leaves}
use Rattle.tungstenite.specs.Content.{Content, text, binary, ping, pong, close, is_close}
use Rattle.tungstenite.specs.Socket.{Socket, Flushed, Writes, content_of, has_kind}
use Rattle.tungstenite.specs.declared.message.Message.{Message}
use Rattle.tungstenite.specs.declared.message.Message.TheVariants as Kind
use Rattle.tungstenite.proofs.SocketLemmas.{appends-keeps}
use Rattle.net_frames.specs.Writers.{conn_of}

-- ---- how the protocol stands afterwards

by_control : (check : Checked Error) (after : Connection) (control : Control) (payload out : List ℕ) → Leaves (after_check check (send (conn_of false) (Op.Control control) payload)) after [] out → after ≡ conn_of false
by_control (Err e) after control payload out left = absurd left
by_control (Ok u) after control payload out left = left.0

by_close : (check : Checked Error) (after : Connection) (payload out : List ℕ)
    → Leaves (after_check check (Ok (record { message = None; reply = Some (record { opcode = Op.Control control_code.Close; payload = payload }); next = record (conn_of false) { state = ClosedByUs } }))) after [] out
    → after ≡ conn_of true
by_close (Err e) after payload out left = absurd left
by_close (Ok u) after payload out left = left.0

-- behind a closing frame nothing more is sent, and behind any other message it stands as before
pub stands_as : (c : Content) (after : Connection) (out : List ℕ) → Leaves (write_step (conn_of false) c) after [] out → after ≡ conn_of (is_close c)
stands_as (text bs) after out left = left.0
stands_as (binary bs) after out left = left.0
stands_as (ping bs) after out left = by_control (check_control_size bs) after control_code.Ping bs out left
stands_as (pong bs) after out left = by_control (check_control_size bs) after control_code.Pong bs out left
stands_as (close frame) after out left = by_close (check_close frame) after (close_payload frame) out left

-- a message of the kind of closing frames is one
pub closes : (m : Message) → has_kind 4 m ≡ is_close (content_of m)
closes (Kind.Text s) = refl
closes (Kind.Binary s) = refl
closes (Kind.Ping s) = refl
closes (Kind.Pong s) = refl
closes (Kind.Close frame) = refl

-- a binary message leaves its frame
pub leaves_binary : (payload frame : List ℕ) → frame ≡ encode_frame (whole_header (Op.Data data_code.Binary) None) payload → Leaves (write_step (conn_of false) (binary payload)) (conn_of false) [] frame
leaves_binary payload frame is = (refl, (None, (refl, tt), is))

module _ {S : Type 0} (contents : S → Option (List ℕ)) where
  -- a frame that joined the stream was written
  pub wrote : (old new : Socket S) (c : Content) (frame joined : List ℕ) → old.conn ≡ conn_of false → old.output ≡ [] → new.output ≡ [] → new.input ≡ old.input
      → Leaves (write_step (conn_of false) c) new.conn [] frame → joined ≡ frame → Appends (contents old.stream) (contents new.stream) joined → Writes contents old new (write_step old.conn c)
  wrote old new c frame joined is_open none empty input left same took =
      subst (λ (conn : Connection). Writes contents old new (write_step conn c)) (sym is_open) (
        frame,
        subst (λ (l : List ℕ). Leaves (write_step (conn_of false) c) new.conn l (frame ++ new.output)) (sym none)
            (subst (λ (l : List ℕ). Leaves (write_step (conn_of false) c) new.conn [] l) (sym (ap (λ l. frame ++ l) empty ∙ append-nil frame)) left),
        subst (λ (l : List ℕ). Appends (contents old.stream) (contents new.stream) l) same took,
        input,
      )

  -- what a flush leaves where nothing waits in the socket
  pub flushed : (old new : Socket S) → old.output ≡ [] → new.output ≡ [] → new.conn ≡ old.conn → new.input ≡ old.input → Keeps (contents old.stream) (contents new.stream) → Flushed contents old new
  flushed old new none empty conn input kept = ([], none ∙ sym empty, appends-keeps (contents old.stream) (contents new.stream) kept, conn, input)
