use Rattle.std.proofs.Common.{ap, sym}
use Rattle.canvas_server.specs.Asked.{asked_by}
use Rattle.canvas_server.proofs.Asking.{asks_nothing}
use Rattle.canvas_server.proofs.request.Request.asked_by.Goals as goal

pub returns-in-Some : goal.returns-in-Some
returns-in-Some g c = sym (ap asked_by c.in-Some.ensures.some)

pub returns-in-None : goal.returns-in-None
returns-in-None g c = asks_nothing c.args.message c.in_default.not-Join c.in-None.ensures.none
