use Rattle.std.proofs.Common.{◌≡◌, take, map}
use Rattle.net_outbox.specs.Texts.{text_bytes}
use Rattle.canvas_sockets.specs.Served.{WritesEach}
use Rattle.canvas_sockets.proofs.turning.write_some.Given as goal

abbrev pub invariant-loop-text : goal.invariant-loop-text
invariant-loop-text g l = record {
  counted : l.count ≡ l.text-index;
  wrote : WritesEach g.S.Write.contents l.initial.socket (map text_bytes (take l.text-index l.texts)) l.socket;
}
