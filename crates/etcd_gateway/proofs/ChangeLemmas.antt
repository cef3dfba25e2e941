-- The trees of changes have no floats, and are shallow.
use Rattle.std.proofs.Common.{◌≡◌, ℕ, ◌≤◌, false, List, [], ◌∷◌, refl, arith}
use Rattle.serde_json.specs.Data.{depth, items_depth}
use Rattle.serde_json.specs.Written.{has_float, items_have_float}
use Rattle.etcd_gateway.specs.declared.requests.KeyChange.{KeyChange}
use Rattle.etcd_gateway.specs.declared.requests.KeyChange.TheVariants.{Put, Remove}
use Rattle.etcd_gateway.specs.declared.requests.Expected.{Expected}
use Rattle.etcd_gateway.specs.declared.requests.Expected.TheVariants.{Nothing, Value}
use Rattle.etcd_gateway.specs.Trees.{change_items, change_tree, commit_tree, compare_tree}

no_float : (change : KeyChange) → has_float (change_tree change) ≡ false
no_float (Put key value lease) = refl
no_float (Remove keys) = refl

no_floats : (changes : List KeyChange) → items_have_float (change_items changes) ≡ false
no_floats [] = refl
no_floats (change ∷ changes) = rw (no_float change) (no_floats changes)

shallow : (change : KeyChange) → depth (change_tree change) ≤ 2
shallow (Put key value lease) = omega arith
shallow (Remove keys) = omega arith

all_shallow : (changes : List KeyChange) → items_depth (change_items changes) ≤ 2
all_shallow [] = omega arith
all_shallow (change ∷ changes) = omega (arith, shallow change, all_shallow changes)

compare_no_float : (key : List ℕ) (expected : Expected) → has_float (compare_tree key expected) ≡ false
compare_no_float key Nothing = refl
compare_no_float key (Value value) = refl

compare_shallow : (key : List ℕ) (expected : Expected) → depth (compare_tree key expected) ≤ 2
compare_shallow key Nothing = omega arith
compare_shallow key (Value value) = omega arith

pub commit_has_no_float : (key : List ℕ) (expected : Expected) (changes : List KeyChange) → has_float (commit_tree key expected changes) ≡ false
commit_has_no_float key expected changes = rw (compare_no_float key expected, no_floats changes) refl

pub commit_is_shallow : (key : List ℕ) (expected : Expected) (changes : List KeyChange) → depth (commit_tree key expected changes) ≤ 127
commit_is_shallow key expected changes = omega (arith, compare_shallow key expected, all_shallow changes)
