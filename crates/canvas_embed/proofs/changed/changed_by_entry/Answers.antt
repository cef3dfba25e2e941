use Rattle.canvas_embed.proofs.Touched.{entry_may_change}
use Rattle.canvas_embed.proofs.changed.changed_by_entry.Goals as goal

pub returns-then-leaves_root : goal.returns-then-leaves_root
returns-then-leaves_root c = entry_may_change c.args.entry.now c.in_ok-ids.ids.items (c.leaves_root.ensures c.if-leaves_root.true) c.in_ok-ids.ensures
