-- The shape of a JSON tree: the JSON tree with 0 in place of each whole number.
use Rattle.std.specs.Prelude.{pos, negsuc}
use Rattle.serde_json.specs.Data as D
use Rattle.serde_json.specs.Data.{Data, null, boolean, string, array, object, unsigned, negative, float, Items, no_items, item}

abbrev mutual
  pub shape : Data → Data
  shape null = null
  shape (boolean b) = boolean b
  shape (D.number (unsigned n)) = D.number (unsigned 0)
  shape (D.number (negative (pos n))) = D.number (negative (pos n))
  shape (D.number (negative (negsuc n))) = D.number (unsigned 0)
  shape (D.number (float x)) = D.number (float x)
  shape (string s) = string s
  shape (array ds) = array (shapes ds)
  shape (object ms) = object ms

  pub shapes : Items → Items
  shapes no_items = no_items
  shapes (item d ds) = item (shape d) (shapes ds)
