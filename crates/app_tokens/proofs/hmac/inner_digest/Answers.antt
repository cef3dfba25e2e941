use Rattle.std.proofs.Common.{codes}
use Rattle.app_tokens.proofs.Codes.{inner_is}
use Rattle.app_tokens.proofs.hmac.inner_digest.Goals as goal

pub returns : goal.returns
returns c =
    inner_is c.finalize.result c.mixed.result c.args.key.now c.args.parts.now.header.now (codes ".") c.args.parts.now.payload.now c.mixed.ensures
    (c.finalize.ensures _ (c.update-4.ensures _ (c.update-3.ensures _ (c.update-2.ensures _ (c.update.ensures _ c.new-inner.ensures)))))
