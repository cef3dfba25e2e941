use Rattle.std.proofs.Common.{arith}
use Rattle.canvas_decimals.proofs.Wholes.{steps}
use Rattle.canvas_decimals.proofs.value_of.Goals as goal

pub returns-then-number-gt922337203685477580-clause-none : goal.returns-then-number-gt922337203685477580-clause-none
returns-then-number-gt922337203685477580-clause-none c =
    let up = steps c.loop-b.number c.args.text.now c.loop-b.b-index c.loop-b-test.true in
    omega (arith, up, c.loop-b.invariant.rest, c.if-number-gt922337203685477580.true)
