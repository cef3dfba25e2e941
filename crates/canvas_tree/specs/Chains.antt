-- Chains of parents, written down from above.
use Rattle.std.specs.Prelude.{◌≡◌, List, [], ◌∷◌, Option, None, Some}
use Rattle.canvas_model.specs.declared.ObjId.{ObjId}
use Rattle.canvas_model.specs.Ids.{root}
use Rattle.canvas_model.specs.Document.{Doc}
use Rattle.canvas_model.specs.Chain.{InTree}
use Rattle.canvas_model.specs.Children.{parent_of}

-- from p these lead down to q, the place of each naming the one before it
abbrev pub LeadTo : Doc → ObjId → ObjId → List ObjId → Type 0
LeadTo d q p [] = p ≡ q
LeadTo d q p (c ∷ cs) = (parent_of d c ≡ Some p) × LeadTo d q c cs

-- the chain of parents of q, from the root down to q itself, or none where there is no such chain
abbrev pub IsPath : Doc → ObjId → Option (List ObjId) → Type 0
IsPath d q None = InTree d q → ⊥
IsPath d q (Some ids) = (cs : List ObjId) × (ids ≡ root ∷ cs) × LeadTo d q root cs
