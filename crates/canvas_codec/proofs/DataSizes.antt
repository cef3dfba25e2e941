-- How much stands in a JSON tree.
use Rattle.std.proofs.Common.{ℕ, zero, suc, ◌+◌, ◌<◌, List, [], ◌∷◌, length, get_or, arith}
use Rattle.serde_json.specs.Data.{Data, null, boolean, number, string, array, object, Items, no_items, item}
use Rattle.serde_json.specs.View.{view, items_view}
use Rattle.serde_json.specs.declared.value.Value.{Value as Json}

abbrev mutual
  pub data_size : Data → ℕ
  data_size null = 1
  data_size (boolean b) = 1
  data_size (number n) = 1
  data_size (string s) = 1
  data_size (array ds) = items_size ds + 2
  data_size (object ms) = 1

  pub items_size : Items → ℕ
  items_size no_items = 0
  items_size (item d ds) = data_size d + items_size ds + 1

pub member_size : (vs : List Json) (i : ℕ) (d : Json) → i < length vs → data_size (view (get_or vs i d)) < items_size (items_view vs)
member_size [] i d h = absurd (omega arith)
member_size (v ∷ vs) zero d h = omega arith
member_size (v ∷ vs) (suc i) d h = let more : data_size (view (get_or vs i d)) < items_size (items_view vs) = member_size vs i d (omega arith) in omega arith
