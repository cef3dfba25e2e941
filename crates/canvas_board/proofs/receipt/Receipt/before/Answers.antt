use Rattle.std.proofs.Common.{arith, ap}
use Rattle.canvas_board.proofs.Tails.{one_above}
use Rattle.canvas_board.proofs.receipt.Receipt.before.Goals as goal

pub overflow_sub-result : goal.overflow_sub-result
overflow_sub-result g c = one_above _ _ _ _ c.self.invariant

pub returns-clause-version : goal.returns-clause-version
returns-clause-version g c =
    let above = one_above _ _ _ _ c.self.invariant in
    let same = ap (λ r. r.version) c.self.view_is in
    omega (arith, above, same)
