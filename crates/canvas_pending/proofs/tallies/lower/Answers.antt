use Rattle.std.proofs.Common.{◌∙◌, ap, sym}
use Rattle.canvas_model.specs.View.{sets_it}
use Rattle.canvas_pending.proofs.tallies.lower.Goals as goal

pub lower-requires-clause-counted : goal.lower-requires-clause-counted
lower-requires-clause-counted g c k hit = c.requires.counted.sets k.0 k.1 (ap (sets_it k.0 k.1) (sym c.in-Set.ensures.variant) ∙ hit)
