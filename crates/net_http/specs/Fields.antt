-- Whether a request's head is a handshake.
use Rattle.std.specs.Prelude.{ℕ, Bool, ◌&&◌, List, codes}
use Rattle.std.specs.List.{list_any}
use Rattle.net_heads.specs.Fields.{NamesAndValues, has_name, is_same_word}

-- the field is `Upgrade: websocket`
abbrev pub asks_upgrade : List ℕ × List ℕ → Bool
asks_upgrade field = has_name (codes "upgrade") field && is_same_word field.1 (codes "websocket")

-- a request is a handshake where a field asks for WebSocket
abbrev pub is_handshake : NamesAndValues → Bool
is_handshake fields = list_any asks_upgrade fields
