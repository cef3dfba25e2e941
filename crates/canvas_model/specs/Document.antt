-- Documents: the live objects by their ids. The fields of an object are its kind, its place and each of its properties.
use Rattle.std.specs.Prelude.{◌≡◌, ◌≢◌, ℕ, Bool, true, false, not, List, Option, Some, None, IsTrue, is_some}
use Rattle.std.specs.Option.{option_map, option_and_then}
use Rattle.std.specs.List.{list_any}
use Rattle.std.specs.Ordering.{nat_cmp}
use Rattle.std.specs.Cmp.Lexicographic.{slice_cmp}
use Rattle.std.specs.FinMap.{FinMap}
use Rattle.std.specs.FinMap as map
use Rattle.std.specs.declared.cmp.Ordering.{Ordering}
use Rattle.canvas_model.specs.declared.ObjId.{ObjId}
use Rattle.canvas_model.specs.declared.Kind.{Kind}
use Rattle.canvas_model.specs.declared.Kind.TheVariants.{Document, Page, Frame, Shape, Text}
use Rattle.canvas_model.specs.Ids.{id_cmp, root, same_id}
use Rattle.canvas_model.specs.Value.{Value}

-- whether an object of the first kind may stand under one of the second
abbrev pub may_stand : Kind → Kind → Bool
may_stand Page Document = true
may_stand Frame Page = true
may_stand Frame Frame = true
may_stand Shape Page = true
may_stand Shape Frame = true
may_stand Text Page = true
may_stand Text Frame = true
may_stand _ _ = false

-- the bytes of a position
abbrev pub Pos : Type 0
Pos = List ℕ

-- where an object stands: its parent, and its position among the parent's children
pub record Place : Type 0 where
  pub parent : ObjId
  pub pos : Pos

-- the bytes of a property's name; names are ordered as bytes are
abbrev pub Name : Type 0
Name = List ℕ

-- the order of names
abbrev pub name_cmp : Name → Name → Ordering
name_cmp = slice_cmp nat_cmp

-- a live object
pub record Object : Type 0 where
  pub kind : Kind
  pub place : Option Place
  pub props : FinMap name_cmp Value

-- a document: which object lives under which id
abbrev pub Doc : Type 0
Doc = FinMap id_cmp Object

-- the object is live
abbrev pub live : Doc → ObjId → Bool
live d q = is_some (map.get d q)

-- the kind of an object, if it is live
abbrev pub kind_of : Doc → ObjId → Option Kind
kind_of d q = option_map (λ o. o.kind) (map.get d q)

-- the place of an object, if it is live and has one
abbrev pub place_of : Doc → ObjId → Option Place
place_of d q = option_and_then (λ o. o.place) (map.get d q)

-- the value of a property of an object, if it is live and has it
abbrev pub prop_of : Doc → ObjId → Name → Option Value
prop_of d q name = option_and_then (λ o. map.get o.props name) (map.get d q)

-- an object with no properties
abbrev pub new_object : Kind → Option Place → Object
new_object kind place = record { kind = kind; place = place; props = map.empty }

-- the root alone
abbrev pub blank : Doc
blank = map.insert map.empty root (new_object Document None)

-- the root is live, a Document without a place; every other live object has a place
pub record IsDocument (d : Doc) : Type 0 where
  pub root_kind : kind_of d root ≡ Some Document
  pub root_place : place_of d root ≡ None
  pub others : (q : ObjId) → q ≢ root → IsTrue (live d q) → (place : Place) × (place_of d q ≡ Some place)

-- the object is now this one, or gone
abbrev pub revise : Doc → ObjId → Option Object → Doc
revise d id None = map.remove d id
revise d id (Some o) = map.insert d id o

-- the property's value is now this one, or it has none
abbrev pub with_prop : Name → Option Value → Object → Object
with_prop name None o = record o { props = map.remove o.props name }
with_prop name (Some v) o = record o { props = map.insert o.props name v }

-- the object at this place
abbrev pub with_place : Place → Object → Object
with_place place o = record o { place = Some place }

-- the document without these objects
abbrev pub without : Doc → List ObjId → Doc
without d ids = map.retain_keys d (λ q. not (list_any (same_id q) ids))
