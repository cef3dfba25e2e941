use Rattle.std.proofs.Common.{rules, ap, ◌∙◌}
use Rattle.app_tokens.specs.Hmac.{hmac}
use Rattle.app_tokens.specs.Parts.{seen_parts}
use Rattle.app_tokens.specs.Tokens.{signed_text}
use Rattle.app_tokens.proofs.Codes.{signature_is}
use Rattle.app_tokens.proofs.hmac.signature_of.Goals as goal

pub returns : goal.returns
returns c =
    signature_is c.encode_slice.new.output c.code_of-code.result _ c.args.key.now (signed_text (seen_parts c.args.parts.now)) (search rules) (search rules)
    (c.code_of-code.ensures ∙ ap (λ k. hmac k (signed_text (seen_parts c.args.parts.now))) c.digits.ensures) c.in-Ok.ensures.written
