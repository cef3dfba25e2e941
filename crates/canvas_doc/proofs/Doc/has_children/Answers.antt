use Rattle.std.proofs.Common.{◌≡◌, Some, subst}
use Rattle.std.specs.Prelude.{◌↔◌, IsTrue}
use Rattle.std.specs.FinMap as map
use Rattle.canvas_model.specs.declared.ObjId.{ObjId}
use Rattle.canvas_model.specs.Children.{parent_of}
use Rattle.canvas_model.specs.Document.{Doc}
use Rattle.canvas_doc.proofs.Doc.has_children.Goals as goal

pub returns : goal.returns
returns g c =
    subst (λ (d : Doc). IsTrue c.is_any_under.result ↔ ((q : ObjId) × (parent_of d q ≡ Some c.args.id))) c.self.view_is (c.is_any_under.ensures (map.from_sorted c.self.inside.rows) c.self.invariant.spots)
