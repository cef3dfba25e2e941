use Rattle.app_tokens.specs.Parts.{seen_parts}
use Rattle.app_tokens.proofs.Codes.{one_key}
use Rattle.app_tokens.proofs.hmac.is_signed.Goals as goal

pub loop-key-preserved : goal.loop-key-preserved
loop-key-preserved c =
    one_key (seen_parts c.args.parts.now) c.args.keys.now c.loop-key.key-index c.key-item.result c.signature_of.result c.loop-key.is_signed
    c.is_same_code-is_signed.result c.loop-key-test.true c.key-item.is c.signature_of.ensures c.loop-key.invariant c.is_same_code-is_signed.ensures
