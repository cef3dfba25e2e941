use Rattle.std.proofs.Common.{◌≡◌, length, arith}
use Rattle.canvas_judge.proofs.Soundness.{rooted}
use Rattle.canvas_judge.proofs.sound.all_in_tree.Goals as goal

pub returns : goal.returns
returns g c =
    let counted : c.len.result ≡ length c.in_ok-ids.ids.items = omega (arith, c.in_ok-ids.ids.ok.0, c.len.ensures) in
    rooted c.args.doc.now c.in_ok-ids.ids.items c.len.result c.len-2.result c.in_ok-ids.ensures counted c.len-2.ensures
