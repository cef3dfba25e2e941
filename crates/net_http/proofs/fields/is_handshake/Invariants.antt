use Rattle.std.proofs.Common.{◌≡◌, false, take, map}
use Rattle.httparse.specs.Spans.{header_bytes}
use Rattle.net_http.specs.Fields.{is_handshake}
use Rattle.net_http.proofs.fields.is_handshake.Given as goal

-- no field so far asks for WebSocket
abbrev pub invariant-loop-span : goal.invariant-loop-span
invariant-loop-span l = is_handshake (map (header_bytes l.fields.bytes.now) (take l.span-index l.fields.spans.now)) ≡ false
