use Rattle.std.proofs.Common.{refl, subst, sym}
use Rattle.canvas_doc.specs.Known.{HasObjects}
use Rattle.canvas_doc.proofs.Maps.{get_found}
use Rattle.canvas_doc.proofs.Doc.object.Goals as goal

pub returns-clause-object : goal.returns-clause-object
returns-clause-object g c = sym (get_found _ _ _ _ _ c.self.invariant.sorted c.self.view_is refl (sym (c.object_of.ensures c.self.invariant.sorted)))

pub returns-clause-known : goal.returns-clause-known
returns-clause-known g c = subst HasObjects c.self.view_is c.self.invariant.known
