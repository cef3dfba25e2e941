-- A byte of a payload.
use Rattle.std.proofs.Common.{◌-◌, arith}
use Rattle.net_idle.proofs.Passing.{stands_in_payload}
use Rattle.net_idle.proofs.frames.Frames.pass_one.Goals as goal

pub returns-then-self-gt0 : goal.returns-then-self-gt0
returns-then-self-gt0 c = λ before was not_lost.
    stands_in_payload c.args.self.now before c.args.byte (c.args.self.now.left - 1) (omega (arith, c.if-self-gt0.true)) (was not_lost)
