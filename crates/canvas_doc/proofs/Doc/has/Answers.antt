use Rattle.std.proofs.Common.{ap, ◌∙◌}
use Rattle.std.specs.Prelude.{is_some}
use Rattle.canvas_doc.proofs.Maps.{copied_is_some}
use Rattle.canvas_doc.proofs.Doc.has.Goals as goal

pub returns : goal.returns
returns g c = c.is_some.ensures ∙ copied_is_some _ ∙ ap is_some c.object.ensures.object
