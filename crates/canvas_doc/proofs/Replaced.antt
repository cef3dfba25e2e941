-- Documents of which a live object was taken out of its row, and another put back there.
use Rattle.std.proofs.Common.{◌≡◌, ◌≢◌, Bool, true, false, cond, List, T, Some, Option, Result, Ok, Err, refl, sym, ap, subst, ◌∙◌}
use Rattle.std.specs.Prelude.{OnErr, OnOk, is_some}
use Rattle.std.specs.Borrow.{Bor}
use Rattle.std.specs.Option.{option_copied, option_map}
use Rattle.std.specs.FinMap as map
use Rattle.std.specs.Cmp.{IsTotalOrder}
use Rattle.std.specs.Ordering.{eq_by_cmp}
use Rattle.std.specs.declared.cmp.Ordering.{Ordering}
use Rattle.std.proofs.lemmas.Map.Lookups.{CmpEqualImpliesEq}
use Rattle.canvas_model.specs.declared.ObjId.{ObjId}
use Rattle.canvas_model.specs.Ids.{id_cmp, root, IsId}
use Rattle.canvas_model.specs.Value.{Value}
use Rattle.canvas_model.specs.Document.{Doc, IsDocument, Name, Object, Place, live, place_of, revise, with_prop}
use Rattle.canvas_model.proofs.Fields.{kind_kept, place_kept}
use Rattle.canvas_model.proofs.Ids.{dead_none}
use Rattle.canvas_doc.specs.declared.spots.Spot.{Spot}
use Rattle.canvas_doc.specs.Known.{IsObject, HasObjects}
use Rattle.canvas_doc.specs.Spots.{AreSpots}
use Rattle.canvas_doc.proofs.Maps.{exact_ids, ids_total, copied_is_some, get_is, get_same, put_inserts, put_sorted, same_exact}
use Rattle.canvas_doc.proofs.Kept.{nothing_removed}
use Rattle.canvas_doc.proofs.Known.{row_put}
use Rattle.canvas_doc.proofs.Placing.{place_now, places_kept, places_moved}
use Rattle.canvas_doc.proofs.Rooted.{document_put, document_set}
use Rattle.canvas_doc.proofs.Spotted.{spots_same}

-- the later of two values of a key is the one that is left
module _ {K X : Type 0} {R : K → K → Ordering} (o : IsTotalOrder R) (exact : CmpEqualImpliesEq R) where
  pub inserted_twice : (m : map.FinMap R X) (k : K) (v w : X) → map.insert (map.insert m k v) k w ≡ map.insert m k w
  inserted_twice m k v w = map.same_map o exact _ _ (λ q.
      map.get-insert o (map.insert m k v) k w q
      ∙ ap (cond (eq_by_cmp R q k) (Some w)) (map.get-insert o m k v q)
      ∙ once (eq_by_cmp R q k) (Some w) (Some v) (map.get m q)
      ∙ sym (map.get-insert o m k w q))
    where
      once : (b : _) (x y z : Option X) → cond b x (cond b y z) ≡ cond b x z
      once true x y z = refl
      once false x y z = refl

-- an object that is written as it was
written_same : (d : Doc) (id : ObjId) (o : Object) → map.get d id ≡ Some o → map.insert d id o ≡ d
written_same d id o was = map.same_map ids_total exact_ids _ _ (λ q. map.get-insert ids_total d id o q ∙ there q (eq_by_cmp id_cmp q id) (λ e. ap (map.get d) (same_exact q id e) ∙ was))
  where
    there : (q : ObjId) (c : Bool) → (c ≡ true → map.get d q ≡ Some o) → cond c (Some o) (map.get d q) ≡ map.get d q
    there q true h = sym (h refl)
    there q false h = refl

-- what a look-up among the rows says of the document
module _ (es : List (ObjId × Object)) (d : Doc) (id : ObjId) (sorted : T (map.is_sorted id_cmp es)) (view : map.from_sorted es ≡ d) (r : Option (Bor Object)) (found : option_copied r ≡ map.find id_cmp id es) where
  pub lives_as : live d id ≡ is_some r
  lives_as = ap is_some (get_is es d id sorted view ∙ sym found) ∙ sym (copied_is_some r)

  pub not_replaced : (f : Object → Object) → is_some r ≡ false → d ≡ revise d id (option_map f (map.get d id))
  not_replaced f none =
      let gone = dead_none d id (lives_as ∙ none) in
      nothing_removed ids_total exact_ids d id gone ∙ sym (ap (λ x. revise d id (option_map f x)) gone)

-- an object was taken out, and this one left there
module _ (es fs : List (ObjId × Object)) (id : ObjId) (bare : Object) (sorted : T (map.is_sorted id_cmp es)) (out : fs ≡ map.put id_cmp id bare es) where
  pub out_sorted : T (map.is_sorted id_cmp fs)
  out_sorted = put_sorted ids_total es fs id bare sorted out

  pub out_lives : live (map.from_sorted fs) id ≡ true
  out_lives = ap (λ d. live d id) (put_inserts ids_total es fs (map.from_sorted es) id bare sorted refl out) ∙ ap is_some (get_same (map.from_sorted es) id bare)

  -- then this one was put there
  module _ (gs : List (ObjId × Object)) (d : Doc) (before after : Object) (view : map.from_sorted es ≡ d) (found : map.find id_cmp id es ≡ Some before) (back : gs ≡ map.put id_cmp id after fs) where
    was : map.get d id ≡ Some before
    was = get_is es d id sorted view ∙ found

    back_inserted : map.from_sorted gs ≡ map.insert d id after
    back_inserted = put_inserts ids_total fs gs (map.insert d id bare) id after out_sorted (put_inserts ids_total es fs d id bare sorted view out) back ∙ inserted_twice ids_total exact_ids d id bare after

    pub back_sorted : T (map.is_sorted id_cmp gs)
    back_sorted = put_sorted ids_total fs gs id after out_sorted back

    pub back_is : (f : Object → Object) → after ≡ f before → map.from_sorted gs ≡ revise d id (option_map f (map.get d id))
    back_is f changed = back_inserted ∙ ap (map.insert d id) changed ∙ sym (ap (λ x. revise d id (option_map f x)) was)

    pub back_same : after ≡ before → map.from_sorted gs ≡ d
    back_same same = back_inserted ∙ ap (map.insert d id) same ∙ written_same d id before was

    pub back_known : IsId id → IsObject after → HasObjects d → HasObjects (map.from_sorted {R = id_cmp} gs)
    back_known is known h = subst HasObjects (sym back_inserted) (row_put d id after h is known)

    -- it stands somewhere: where the others stand, and where it stands
    module _ (place : Place) (stands : after.place ≡ Some place) where
      pub back_moved : id ≢ root → IsDocument d → IsDocument (map.from_sorted {R = id_cmp} gs)
      back_moved ne h = subst IsDocument (sym back_inserted) (document_put d id after place stands (λ e. ne (sym e)) h)

      pub others_stay : (q : ObjId) → q ≢ id → place_of (map.from_sorted {R = id_cmp} gs) q ≡ place_of (map.from_sorted {R = id_cmp} es) q
      others_stay q ne = ap (λ d. place_of d q) back_inserted ∙ places_moved d id after q ne ∙ sym (ap (λ d. place_of d q) view)

      pub stands_now : place_of (map.from_sorted {R = id_cmp} gs) id ≡ Some place
      stands_now = ap (λ d. place_of d id) back_inserted ∙ place_now d id after ∙ stands

    -- its kind and its place are as before
    module _ (kind : after.kind ≡ before.kind) (place : after.place ≡ before.place) where
      pub back_document : IsDocument d → IsDocument (map.from_sorted {R = id_cmp} gs)
      back_document h = subst IsDocument (sym back_inserted) (document_set d id before after was kind place h)

      pub back_spots : (spots : List Spot) → AreSpots (place_of (map.from_sorted es)) spots → AreSpots (place_of (map.from_sorted {R = id_cmp} gs)) spots
      back_spots spots are = spots_same (place_of (map.from_sorted es)) (place_of (map.from_sorted gs)) spots (λ q.
          ap (λ d. place_of d q) view ∙ places_kept d id before after was place q ∙ sym (ap (λ d. place_of d q) back_inserted)) are

-- an object that has another value for a property, or is as before
module _ {X E : Type 0} (name : Name) (value : Option Value) (before after : Object) where
  pub kind_stays : (r : Result X E) → OnOk r (after ≡ with_prop name value before) → OnErr r (after ≡ before) → after.kind ≡ before.kind
  kind_stays (Ok x) is same = ap (λ (o : Object). o.kind) is ∙ kind_kept name value before
  kind_stays (Err x) new is = ap (λ (o : Object). o.kind) is

  pub place_stays : (r : Result X E) → OnOk r (after ≡ with_prop name value before) → OnErr r (after ≡ before) → after.place ≡ before.place
  place_stays (Ok x) is same = ap (λ (o : Object). o.place) is ∙ place_kept name value before
  place_stays (Err x) new is = ap (λ (o : Object). o.place) is
