-- One byte more has passed.
use Rattle.std.proofs.Common.{◌++◌, take, append_assoc, append-nil}
use Rattle.std.proofs.lemmas.List.{take_more}
use Rattle.net_idle.proofs.frames.Frames.pass.Goals as goal

pub loop-byte-init : goal.loop-byte-init
loop-byte-init c = λ before was. rw append-nil was

pub loop-byte-preserved : goal.loop-byte-preserved
loop-byte-preserved c = λ before was.
    rw (take_more c.args.bytes.now c.loop-byte.byte-index 0 c.loop-byte-test.true, ← append_assoc)
    (c.pass_one.ensures (before ++ take c.loop-byte.byte-index c.args.bytes.now) (c.loop-byte.invariant before was))
