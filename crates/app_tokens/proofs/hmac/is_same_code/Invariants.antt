use Rattle.std.proofs.Common.{◌≡◌, ◌↔◌, take}
use Rattle.app_tokens.proofs.hmac.is_same_code.Given as goal

-- the first bytes are the same if nothing differs so far
abbrev pub invariant-loop-i : goal.invariant-loop-i
invariant-loop-i l = (l.differing ≡ 0) ↔ (take l.i l.code ≡ take l.i l.text)
