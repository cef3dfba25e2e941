use Rattle.std.proofs.Common.{◌∙◌, length, ap, arith}
use Rattle.app_admin.proofs.Lines.{torn_on}
use Rattle.app_admin.proofs.checking.measure.Goals as goal

pub loop-text-preserved : goal.loop-text-preserved
loop-text-preserved c =
    let more = ap length c.in-Some.ensures.first in
    record {
      whole = omega (arith, more, c.loop-text.invariant.whole);
      torn = torn_on c.loop-text.rest.now c.in-Some.after.now c.in-Some._text.now c.in-Some.ensures.first c.in-Some.ensures.size ∙ c.loop-text.invariant.torn;
      fits = omega (arith, c.in-Some.ensures.size, c.loop-text.invariant.fits);
    }
