use Rattle.std.proofs.Common.{◌<◌, length, arith, get_or, refl, ◌∙◌}
use Rattle.std.proofs.lemmas.List.{get_or_default}
use Rattle.memory_folder.proofs.Changing.{sure_set, sure_more, sure_done}
use Rattle.memory_folder.proofs.files.make_sure.Goals as goal

pub loop-i-preserved : goal.loop-i-preserved
loop-i-preserved c =
    let fs = c.loop-i.files in
    let i = c.loop-i.i in
    let less : i < length fs = omega (arith, c.loop-i.auto.files, c.loop-i-test.true) in
    let x = get_or fs i c.index-files-i.result in
    record {
      same = sure_set fs i x _ less (get_or_default fs i c.index-files-i.result x less) refl ∙ c.loop-i.invariant.same;
      sure = sure_more fs i _ less refl c.loop-i.invariant.sure;
    }

pub returns : goal.returns
returns c = sure_done c.loop-i.files c.loop-i.i (omega (arith, c.loop-i.auto.files, c.loop-i-test.false)) c.loop-i.invariant.sure ∙ c.loop-i.invariant.same
