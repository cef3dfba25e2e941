use Rattle.std.proofs.Common.{◌≡◌, take}
use Rattle.app_tokens.specs.Parts.{seen_parts}
use Rattle.app_tokens.specs.Tokens.{is_signed}
use Rattle.app_tokens.proofs.hmac.is_signed.Given as goal

-- whether one of the keys so far has signed it
abbrev pub invariant-loop-key : goal.invariant-loop-key
invariant-loop-key l = l.is_signed ≡ is_signed (take l.key-index l.keys) (seen_parts l.parts)
