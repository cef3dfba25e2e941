-- What a server writes: the frame of each content, behind what waits.
use Rattle.std.proofs.Common.{◌≡◌, ℕ, List, [], ◌∷◌, ◌++◌, map, Option, None, Some, Ok, Err, refl, sym, ap, subst, ◌∙◌, append_assoc, append-nil}
use Rattle.std.specs.Io.KnownBytes.{Appends, append_known}
use Rattle.std.proofs.KnownBytes.{Appends-nil, Appends-trans}
use Rattle.websocket.specs.declared.error.Error.{Error}
use Rattle.websocket.specs.declared.protocol.config.Role.{Role}
use Rattle.websocket.specs.declared.protocol.config.Role.TheVariants.{Server, Client}
use Rattle.websocket.specs.declared.protocol.state.WebSocketState.{WebSocketState}
use Rattle.websocket.specs.declared.protocol.state.WebSocketState.TheVariants as state
use Rattle.websocket.specs.declared.protocol.frame.coding.OpCode.{OpCode}
use Rattle.websocket.specs.declared.protocol.frame.coding.OpCode.TheVariants as Op
use Rattle.websocket.specs.declared.protocol.frame.coding.Data.TheVariants as data_code
use Rattle.websocket.specs.declared.protocol.frame.coding.Control.{Control}
use Rattle.websocket.specs.declared.protocol.frame.coding.Control.TheVariants as control_code
use Rattle.websocket.specs.Content.{close_payload}
use Rattle.websocket.specs.Frame.{Checked, after_check, encode_frame}
use Rattle.websocket.specs.View.{Leaves}
use Rattle.websocket.specs.Connection.{Connection, IsMaskOf, Sends, check_can_write, check_close, check_control_size, close_to, closing_state, send, whole_header, write_active, write_step}
use Rattle.tungstenite.specs.Content.{Content, text, binary, ping, pong, close}
use Rattle.tungstenite.specs.Socket.{Socket, Flushed, Writes}
use Rattle.canvas_sockets.specs.Served.{WritesEach}
use Rattle.canvas_turns.specs.Said.{frame_of, frames_of, joined}

-- ---- the bytes of a frame

-- a server's frames have no mask
no_mask : (r : Role) (mask : Option (List ℕ)) → r ≡ Server → IsMaskOf r mask → mask ≡ None
no_mask Server None is masked = refl
no_mask Server (Some key) is masked = let e = masked.0 in absurd (cc e)
no_mask Client mask is masked = absurd (cc is)

-- what a step left that succeeded: this frame behind what waited, and it is still a server
abbrev Joins : Connection → OpCode → List ℕ → List ℕ → List ℕ → Type 0
Joins after op payload o o2 = (after.role ≡ Server) × (o2 ≡ o ++ encode_frame (whole_header op None) payload)

sends_frame : (r : Role) (op : OpCode) (payload o o2 : List ℕ) → r ≡ Server → Sends r (Some (record { opcode = op; payload = payload })) o o2
    → o2 ≡ o ++ encode_frame (whole_header op None) payload
sends_frame r op payload o o2 server sends =
    subst (λ (mask : Option (List ℕ)). o2 ≡ o ++ encode_frame (whole_header op mask) payload) (no_mask r sends.0 server sends.1) sends.2

-- a step that goes on by this connection
joins_by : (conn next after : Connection) (op : OpCode) (payload o o2 : List ℕ) → conn.role ≡ Server → next.role ≡ conn.role
    → Leaves (Ok (record { message = None; reply = Some (record { opcode = op; payload = payload }); next = next })) after o o2 → Joins after op payload o o2
joins_by conn next after op payload o o2 server same left =
    let still : after.role ≡ Server = ap (λ (c : Connection). c.role) left.0 ∙ same ∙ server in
    (still, sends_frame after.role op payload o o2 still left.1)

by_control : (check : Checked Error) (conn after : Connection) (control : Control) (payload o o2 : List ℕ) → conn.role ≡ Server
    → Leaves (after_check check (send conn (Op.Control control) payload)) after o o2 → Joins after (Op.Control control) payload o o2
by_control (Err e) conn after control payload o o2 server left = absurd left
by_control (Ok u) conn after control payload o o2 server left = joins_by conn conn after (Op.Control control) payload o o2 server refl left

by_close : (check : Checked Error) (conn after : Connection) (s : WebSocketState) (payload o o2 : List ℕ) → conn.role ≡ Server
    → Leaves (after_check check (Ok (record { message = None; reply = Some (record { opcode = Op.Control control_code.Close; payload = payload }); next = record conn { state = s } }))) after o o2
    → Joins after (Op.Control control_code.Close) payload o o2
by_close (Err e) conn after s payload o o2 server left = absurd left
by_close (Ok u) conn after s payload o o2 server left = joins_by conn (record conn { state = s }) after (Op.Control control_code.Close) payload o o2 server refl left

-- what this content leaves
abbrev Leads : Content → Connection → List ℕ → List ℕ → Type 0
Leads c after o o2 = (after.role ≡ Server) × (o2 ≡ o ++ frame_of c)

by_active : (conn after : Connection) (c : Content) (o o2 : List ℕ) → conn.role ≡ Server → conn.state ≡ state.Active → Leaves (write_active conn c) after o o2 → Leads c after o o2
by_active conn after (text bs) o o2 server active left = joins_by conn conn after (Op.Data data_code.Text) bs o o2 server refl left
by_active conn after (binary bs) o o2 server active left = joins_by conn conn after (Op.Data data_code.Binary) bs o o2 server refl left
by_active conn after (ping bs) o o2 server active left = by_control (check_control_size bs) conn after control_code.Ping bs o o2 server left
by_active conn after (pong bs) o o2 server active left = by_control (check_control_size bs) conn after control_code.Pong bs o o2 server left
by_active conn after (close frame) o o2 server active left =
    by_close (check_close frame) conn after state.ClosedByUs (close_payload frame) o o2 server
    (subst (λ (s : WebSocketState). Leaves (close_to conn frame (closing_state s)) after o o2) active left)

by_state : (s : WebSocketState) (conn after : Connection) (c : Content) (o o2 : List ℕ) → conn.role ≡ Server → conn.state ≡ s
    → Leaves (after_check (check_can_write s) (write_active conn c)) after o o2 → Leads c after o o2
by_state state.Active conn after c o o2 server is left = by_active conn after c o o2 server is left
by_state state.ClosedByUs conn after c o o2 server is left = absurd left
by_state state.ClosedByPeer conn after c o o2 server is left = absurd left
by_state state.CloseAcknowledged conn after c o o2 server is left = absurd left
by_state state.Failed conn after c o o2 server is left = absurd left
by_state state.Terminated conn after c o o2 server is left = absurd left

-- ---- what a socket writes

-- the stream took some of what waited, behind which this joined
grown : (a b : Option (List ℕ)) (old new sent more : List ℕ) → Appends a b sent → sent ++ new ≡ old ++ more → Appends (append_known a old) (append_known b new) more
grown None b old new sent more took is = tt
grown (Some x) None old new sent more took is = absurd took
grown (Some x) (Some y) old new sent more took is =
    ap (λ l. l ++ new) took ∙ append_assoc x sent new ∙ ap (λ l. x ++ l) is ∙ sym (append_assoc x old more)

module _ {S : Type 0} (contents : S → Option (List ℕ)) where
  -- a server's socket is still one, and what it writes has grown by these bytes
  abbrev pub Grows : Socket S → Socket S → List ℕ → Type 0
  Grows old new bytes = (new.conn.role ≡ Server) × Appends (joined contents old) (joined contents new) bytes

  -- by nothing
  pub stays : (s : Socket S) → s.conn.role ≡ Server → Grows s s []
  stays s server = (server, Appends-nil (joined contents s))

  -- by the one, and then by the other
  pub grows_on : (old mid new : Socket S) (bs cs : List ℕ) → Grows old mid bs → Grows mid new cs → Grows old new (bs ++ cs)
  grows_on old mid new bs cs first second = (second.0, Appends-trans (joined contents old) (joined contents mid) (joined contents new) bs cs first.1 second.1)

  -- by the frame of what was written
  pub frame_joins : (old new : Socket S) (c : Content) → old.conn.role ≡ Server → Writes contents old new (write_step old.conn c) → Grows old new (frame_of c)
  frame_joins old new c server wrote =
      let left = by_state old.conn.state old.conn new.conn c old.output (wrote.0 ++ new.output) server refl wrote.1 in
      (left.0, grown (contents old.stream) (contents new.stream) old.output new.output wrote.0 (frame_of c) wrote.2 left.1)

  -- by nothing, where some of what waited has left
  pub flush_joins : (old new : Socket S) → old.conn.role ≡ Server → Flushed contents old new → Grows old new []
  flush_joins old new server flushed = (
    ap (λ (c : Connection). c.role) flushed.3 ∙ server,
    grown (contents old.stream) (contents new.stream) old.output new.output flushed.0 [] flushed.2 (sym flushed.1 ∙ sym (append-nil old.output)),
  )

  -- by the frames of texts
  pub texts_join : (old new : Socket S) (ts : List (List ℕ)) → old.conn.role ≡ Server → WritesEach contents old ts new → Grows old new (frames_of (map binary ts))
  texts_join old new [] server wrote = subst (λ (s : Socket S). Grows old s []) (sym wrote) (stays old server)
  texts_join old new (t ∷ ts) server wrote =
      let first = frame_joins old wrote.0 (binary t) server wrote.1 in
      grows_on old wrote.0 new (frame_of (binary t)) (frames_of (map binary ts)) first (texts_join wrote.0 new ts first.0 wrote.2)
