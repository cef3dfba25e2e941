use Rattle.std.proofs.Common.{◌∙◌, subst, sym}
use Rattle.canvas_doc.specs.Known.{HasObjects}
use Rattle.canvas_doc.proofs.Maps.{pairs_are}
use Rattle.canvas_doc.proofs.Doc.objects.Goals as goal

pub returns-clause-objects : goal.returns-clause-objects
returns-clause-objects g c = c.new.ensures ∙ c.iter.ensures ∙ sym (pairs_are _ _ c.self.invariant.sorted c.self.view_is)

pub returns-clause-known : goal.returns-clause-known
returns-clause-known g c = subst HasObjects c.self.view_is c.self.invariant.known
