-- The laws of trees. Each is the contract of a function of empty body.
use Rattle.std.specs.Prelude.{◌≡◌, ◌↔◌, List, length, Option, None, Some, IsTrue}
use Rattle.std.specs.List.{Contains, IsDistinct}
use Rattle.canvas_model.specs.declared.ObjId.{ObjId}
use Rattle.canvas_model.specs.Ids.{same_id}
use Rattle.canvas_model.specs.Document.{Doc, IsDocument, live}
use Rattle.canvas_model.specs.Chain.{Below, InTree}
use Rattle.canvas_tree.specs.Shapes.{Branch, branch_ids, branch_size}
use Rattle.canvas_tree.specs.Trees.{IsTreeAt, IsTreeOf}
use Rattle.canvas_tree.specs.Chains.{LeadTo, IsPath}
use Rattle.canvas_tree.specs.Reads.{found, path}

-- a tree fits each document
abbrev pub EachHasTree : Type 0
EachHasTree = (d : Doc) → IsDocument d → (t : Branch) × IsTreeOf d t

-- two trees that fit one document are the same
abbrev pub NoneHasTwo : Type 0
NoneHasTwo = (d : Doc) (t u : Branch) → IsTreeOf d t → IsTreeOf d u → t ≡ u

-- an object stands in the tree exactly where a chain of parents leads from it to the root
abbrev pub TreesHoldInTree : Type 0
TreesHoldInTree = (d : Doc) (t : Branch) → IsTreeOf d t → (q : ObjId) → Contains (branch_ids t) q ↔ InTree d q

-- no object stands in the tree twice
abbrev pub TreesHoldOnce : Type 0
TreesHoldOnce = (d : Doc) (t : Branch) → IsDocument d → IsTreeOf d t → IsDistinct same_id (branch_ids t)

-- a tree has as many objects as its size says
abbrev pub SizesCount : Type 0
SizesCount = (t : Branch) → branch_size t ≡ length (branch_ids t)

-- the object lies below another one, or is it, exactly where the other is live and a chain of children leads down from it to the object
abbrev pub ChainsAreBelow : Type 0
ChainsAreBelow = (d : Doc) (q o : ObjId) → Below d q o ↔ (IsTrue (live d o) × (cs : List ObjId) × LeadTo d q o cs)

-- in the tree of a document the path to an object is its chain of parents from the root, and there is none exactly where there is no such chain
abbrev pub PathsAreChains : Type 0
PathsAreChains = (d : Doc) (t : Branch) → IsTreeOf d t → (q : ObjId) → IsPath d q (path q t)

-- this is the tree at q, or q isn't in the tree
abbrev pub IsFound : Doc → ObjId → Option Branch → Type 0
IsFound d q None = InTree d q → ⊥
IsFound d q (Some t) = IsTreeAt d q t

-- in the tree of a document the tree found at an object is the one at it, and none is found exactly where it isn't in the tree
abbrev pub FoundAreTrees : Type 0
FoundAreTrees = (d : Doc) (t : Branch) → IsTreeOf d t → (q : ObjId) → IsFound d q (found q t)
