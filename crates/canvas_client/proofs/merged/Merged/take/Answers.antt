use Rattle.canvas_client.proofs.Keeping.{first_spares}
use Rattle.canvas_client.proofs.merged.Merged.take.Goals as goal

pub follow-requires : goal.follow-requires
follow-requires g c own = first_spares c.args.self.now.waiting c.args.entry.now c.requires.no_root (c.requires.first own)
