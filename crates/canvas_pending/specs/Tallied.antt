-- How often the keys of a map were counted.
use Rattle.std.specs.Prelude.{◌≡◌, ℕ, ◌+◌, ◌&&◌, not, Bool, cond, List, Option, Some}
use Rattle.std.specs.FinMap as map
use Rattle.std.specs.BTreeMap.{BTreeMap}
use Rattle.std.specs.BTreeMap as ordered_map
use Rattle.std.specs.Map.{count_at}
use Rattle.std.specs.Ordering.{on, then_cmp}
use Rattle.std.specs.declared.cmp.Ordering.{Ordering}
use Rattle.canvas_model.specs.declared.ObjId.{ObjId}
use Rattle.canvas_model.specs.Ids.{id_cmp, root, same_id}
use Rattle.canvas_model.specs.Document.{Name, name_cmp}
use Rattle.canvas_model.specs.View.{same_name}

-- the count of each key, if it has one
abbrev pub Tally : Type 0 → Type 0
Tally K = K → Option ℕ

-- no key has the count 0
abbrev pub HasNoZero : {K : Type 0} → Tally K → Type 0
HasNoZero {K} f = (k : K) → f k ≡ Some 0 → ⊥

-- each key that passes the test was counted once more by g than by f
abbrev pub IsOneMore : {K : Type 0} → (K → Bool) → Tally K → Tally K → Type 0
IsOneMore {K} test f g = (k : K) → count_at g k ≡ count_at f k + cond (test k) 1 0

-- g has the counts of f
abbrev pub IsSame : {K : Type 0} → Tally K → Tally K → Type 0
IsSame {K} f g = (k : K) → g k ≡ f k

-- q is this object, which isn't the root
abbrev pub is_it : ObjId → ObjId → Bool
is_it id q = same_id q id && not (same_id id root)

-- k is this property of this object
abbrev pub is_prop : ObjId → Name → ObjId × Name → Bool
is_prop id name k = same_id k.0 id && same_name k.1 name

-- counts by object
abbrev pub of_objects : BTreeMap ObjId ℕ → Tally ObjId
of_objects m = ordered_map.get id_cmp m

-- properties are ordered by object, then by name
abbrev pub prop_cmp : ObjId × Name → ObjId × Name → Ordering
prop_cmp = then_cmp (on (λ k. k.0) id_cmp) (on (λ k. k.1) name_cmp)

-- counts by property
abbrev pub of_props : List ((ObjId × Name) × ℕ) → Tally (ObjId × Name)
of_props tallies k = map.find prop_cmp k tallies
