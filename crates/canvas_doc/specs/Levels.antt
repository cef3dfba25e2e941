-- The children of several objects.
use Rattle.std.specs.Prelude.{◌≡◌, ◌↔◌, List, Some}
use Rattle.std.specs.List.{Contains}
use Rattle.canvas_model.specs.declared.ObjId.{ObjId}
use Rattle.canvas_model.specs.Document.{Doc}
use Rattle.canvas_model.specs.Children.{parent_of}

-- these are the objects whose place names one of these parents
abbrev pub AreUnder : Doc → List ObjId → List ObjId → Type 0
AreUnder d parents ids = (q : ObjId) → Contains ids q ↔ ((p : ObjId) × Contains parents p × (parent_of d q ≡ Some p))
