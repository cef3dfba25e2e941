use Rattle.std.proofs.Common.{◌≡◌, take}
use Rattle.std.specs.Prelude.{string_bytes}
use Rattle.app_server.specs.Kicks.{kick_text}
use Rattle.app_server.proofs.kick_texts.kick_text.Given as goal

-- the lines of those so far
abbrev pub invariant-loop-number : goal.invariant-loop-number
invariant-loop-number l = string_bytes l.text ≡ kick_text (take l.number-index l.numbers)
