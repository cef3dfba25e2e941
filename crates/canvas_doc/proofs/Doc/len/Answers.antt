use Rattle.std.proofs.Common.{◌∙◌, ap, length, sym}
use Rattle.canvas_doc.proofs.Maps.{pairs_are}
use Rattle.canvas_doc.proofs.Doc.len.Goals as goal

pub returns : goal.returns
returns g c = c.len.ensures ∙ ap length (sym (pairs_are _ _ c.self.invariant.sorted c.self.view_is))
