-- The last byte of a header.
use Rattle.std.proofs.Common.{arith}
use Rattle.net_idle.proofs.Passing.{stands_behind_header}
use Rattle.net_idle.proofs.frames.Frames.begin.Goals as goal

pub returns-in-Ok-Some : goal.returns-in-Ok-Some
returns-in-Ok-Some c = λ before was not_lost.
    rw c.enter.ensures
    (stands_behind_header c.args.self.now before c.args.byte c.in-Ok-Some.header c.in-Ok-Some.length c.requires (omega arith) (rw c.in-Ok-Some.field-0-is at c.in-Ok-Some.ensures.complete) (was c.if-self.false))
