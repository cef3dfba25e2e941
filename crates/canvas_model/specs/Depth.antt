-- How deep objects stand in the tree, and which changes would put one deeper than it may stand.
use Rattle.std.specs.Prelude.{◌≡◌, ◌≢◌, ℕ, suc, ◌+◌, ◌<◌, ◌≤◌, Option, Some, None, IsTrue}
use Rattle.canvas_model.specs.declared.ObjId.{ObjId}
use Rattle.canvas_model.specs.Ids.{root}
use Rattle.canvas_model.specs.Document.{Doc, Place, live, place_of}
use Rattle.canvas_model.specs.Chain.{InTree}
use Rattle.canvas_model.specs.Children.{parent_of}

-- q lies n steps below o: a chain of n places leads from q to o, an object itself lies 0 steps below itself
pub data LiesBelow (d : Doc) : ℕ → ObjId → ObjId → Type 0 where
  itself : {o : ObjId} → IsTrue (live d o) → LiesBelow d 0 o o
  through : {n : ℕ} {q o : ObjId} (place : Place) → place_of d q ≡ Some place → LiesBelow d n place.parent o → LiesBelow d (suc n) q o

-- an object of the tree stands this deep: the root has depth 0, any other object one more than its parent
abbrev pub HasDepth : Doc → ObjId → ℕ → Type 0
HasDepth d q n = LiesBelow d n q root

-- the depth of an object, or none where it isn't in the tree
abbrev pub IsDepth : Doc → ObjId → Option ℕ → Type 0
IsDepth d q None = InTree d q → ⊥
IsDepth d q (Some n) = HasDepth d q n

-- the height of what stands below an object: the most steps by which anything lies below it
pub record IsHeight (d : Doc) (o : ObjId) (height : ℕ) : Type 0 where
  pub reached : (q : ObjId) × LiesBelow d height q o
  pub most : (q : ObjId) (n : ℕ) → LiesBelow d n q o → n ≤ height

-- no object stands deeper in the tree than this
abbrev pub StandsWithin : Doc → ℕ → Type 0
StandsWithin d limit = (q : ObjId) (n : ℕ) → HasDepth d q n → n ≤ limit

-- the greatest depth at which a change may put an object
abbrev pub depth_limit : ℕ
depth_limit = 100

-- what lies n steps below an object would stand deeper than that, if the object stood under this parent
abbrev pub PassesLimit : Doc → ObjId → ℕ → Type 0
PassesLimit d parent n = (depth : ℕ) × HasDepth d parent depth × (depth_limit < depth + 1 + n)

-- a new object under this parent would stand too deep
abbrev pub IsTooDeepUnder : Doc → ObjId → Type 0
IsTooDeepUnder d parent = PassesLimit d parent 0

-- the object goes under another parent, where it or something below it would stand too deep
abbrev pub MovesTooDeep : Doc → ObjId → ObjId → Type 0
MovesTooDeep d id parent = (parent_of d id ≢ Some parent) × (q : ObjId) × (n : ℕ) × LiesBelow d n q id × PassesLimit d parent n
