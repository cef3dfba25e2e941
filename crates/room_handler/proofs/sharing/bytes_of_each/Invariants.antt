use Rattle.std.proofs.Common.{◌≡◌, take, map}
use Rattle.net_outbox.specs.Texts.{text_bytes}
use Rattle.room_handler.proofs.sharing.bytes_of_each.Given as goal

abbrev pub invariant-loop-text : goal.invariant-loop-text
invariant-loop-text l = map (λ t. t.items) l.all.items ≡ map text_bytes (take l.text-index l.texts)
