use Rattle.std.proofs.Common.{rules}
use Rattle.canvas_judge.specs.Sound.{IsSoundAt}
use Rattle.canvas_judge.proofs.Soundness.{one_more}
use Rattle.canvas_judge.proofs.sound.each_is_sound.Goals as goal

pub loop-object-preserved : goal.loop-object-preserved
loop-object-preserved g c =
    let sound : IsSoundAt (record { doc = c.args.doc.now; clients = c.args.clients.now }) c.in-Some.object.now = c.is_sound_at.ensures.0 (search rules) in
    one_more (IsSoundAt (record { doc = c.args.doc.now; clients = c.args.clients.now })) _ _ _ _ c.in-Some.ensures.steps sound c.loop-object.invariant
