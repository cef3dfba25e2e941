use Rattle.std.proofs.Common.{◌≡◌, ◌≤◌, length, Some, arith, rules}
use Rattle.std.specs.Prelude.{slice_get}
use Rattle.canvas_embed.specs.Saves.{IsSoundChange}
use Rattle.canvas_embed.proofs.Saved.{all_found, found_more}
use Rattle.canvas_embed.proofs.saves.know_waiting.Goals as goal

pub loop-index-preserved : goal.loop-index-preserved
loop-index-preserved c =
    let x = c.unwrap.result.now in
    let there : slice_get c.args.client.now.waiting c.loop-index.index ≡ Some x = search rules in
    found_more IsSoundChange c.args.client.now.waiting c.loop-index.index x there (record { sound = c.sound_change.ensures.sound; in_range = c.sound_change.ensures.in_range; shallow = c.sound_change.ensures.shallow }) c.loop-index.invariant

pub returns : goal.returns
returns c =
    let long : length c.args.client.now.waiting ≤ c.loop-index.index = omega arith in
    all_found IsSoundChange c.args.client.now.waiting c.loop-index.index long c.loop-index.invariant
