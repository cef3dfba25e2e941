use Rattle.std.proofs.Common.{true≢false, sym, subst, ◌∙◌}
use Rattle.canvas_model.specs.Storable.{IsShallowDoc}
use Rattle.canvas_embed.proofs.saves.finish_view.Goals as goal

pub returns-else-is_shallow-clause-fault : goal.returns-else-is_shallow-clause-fault
returns-else-is_shallow-clause-fault c = λ shallow. true≢false (sym (c.is_shallow.ensures.1 (subst IsShallowDoc (sym c.in-Ok.ensures) shallow)) ∙ c.if-is_shallow.false)
