-- The order of an object's children.
use Rattle.std.proofs.Common.{◌≡◌, refl}
use Rattle.std.specs.Prelude.{Option, Some, None}
use Rattle.std.specs.Option.{option_map}
use Rattle.std.specs.Cmp.{IsTotalOrder, then_total, on_total}
use Rattle.std.specs.Cmp.Lexicographic.{nat_list_cmp_total}
use Rattle.std.specs.Ordering.{ordering_then}
use Rattle.std.specs.declared.cmp.Ordering.{Ordering}
use Rattle.std.specs.declared.cmp.Ordering.TheVariants.{Less, Equal, Greater}
use Rattle.canvas_model.specs.declared.ObjId.{ObjId}
use Rattle.canvas_model.specs.Document.{Doc, Place, place_of}
use Rattle.canvas_model.specs.Children.{child_cmp, parent_of, position_of}
use Rattle.canvas_model.proofs.Ids.{id_total}

pub child_cmp_total : (d : Doc) → IsTotalOrder (child_cmp d)
child_cmp_total d = then_total (on_total (position_of d) nat_list_cmp_total) id_total

-- what ties by two orders ties by the second
pub second_ties : (a b : Ordering) → ordering_then a b ≡ Equal → b ≡ Equal
second_ties Less b e = absurd (let f : Less ≡ Equal = e in cc)
second_ties Equal b e = e
second_ties Greater b e = absurd (let f : Greater ≡ Equal = e in cc)

-- a child has a place under its parent
pub child_place : (d : Doc) (q p : ObjId) → parent_of d q ≡ Some p → (place : Place) × (place_of d q ≡ Some place) × (place.parent ≡ p)
child_place d q p child = go (place_of d q) refl child
  where
    go : (o : Option Place) → place_of d q ≡ o → option_map (λ (x : Place). x.parent) o ≡ Some p → (place : Place) × (place_of d q ≡ Some place) × (place.parent ≡ p)
    go None e h = absurd (cc)
    go (Some place) e h = (place, e, cc)
