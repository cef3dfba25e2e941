use Rattle.std.proofs.Common.{◌≡◌, take, length}
use Rattle.app_tokens.specs.Hmac.{mixed}
use Rattle.app_tokens.proofs.hmac.mixed.Given as goal

-- the bytes so far are mixed
abbrev pub invariant-loop-i : goal.invariant-loop-i
invariant-loop-i l = (length l.mixed ≡ 64) × (take l.i l.mixed ≡ mixed l.pad (take l.i l.block))
