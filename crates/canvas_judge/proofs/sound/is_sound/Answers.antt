use Rattle.std.proofs.Common.{◌≤◌, length, rules}
use Rattle.canvas_judge.proofs.Soundness.{each_is_sound, sound_at_each}
use Rattle.canvas_judge.proofs.sound.is_sound.Goals as goal

pub returns-then-rooted : goal.returns-then-rooted
returns-then-rooted g c =
    let few : length c.args.clients.now ≤ 4294967294 = search rules in (
      λ t. sound_at_each c.args.doc.now c.args.clients.now c.each_is_sound.ensures.document few (c.in_ok-rooted.ensures.0 c.if-rooted.true) (c.each_is_sound.ensures.each.0 t),
      λ sound. c.each_is_sound.ensures.each.1 (each_is_sound c.args.doc.now c.args.clients.now sound),
    )
