use Rattle.std.proofs.Common.{refl}
use Rattle.canvas_client.proofs.request.EditRequest.set.Goals as goal

pub same-value : goal.same-value
same-value g c = refl

pub invariant_of-result : goal.invariant_of-result
invariant_of-result g c = c.check.ensures.0 (rw c.in_ok-check.was refl)
