use Rattle.std.proofs.Common.{IsTrue, sym, subst}
use Rattle.canvas_room_tests.proofs.crashes.submit_first.Goals as goal

pub returns-clause-found : goal.returns-clause-found
returns-clause-found g c honest =
    let told = c.in_ok-receipt.ensures in
    let receipt = c.in_ok-receipt.receipt in
    let now = subst (λ b. IsTrue b) (sym told.honest) honest in
    let begins = c.found_after_every_crash.ensures.receipt _ _ _ _ _ _ receipt told.ok in
    (g.K.Keeper.moment c.submit.new.self.keeper, c.submit_each.ensures.later now, λ left was. c.submit_each.ensures.found now receipt.history begins left was)
