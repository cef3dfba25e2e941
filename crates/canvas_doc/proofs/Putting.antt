-- Documents to which an object was added, and taken out again.
use Rattle.std.proofs.Common.{◌≡◌, Bool, true, false, cond, List, Some, None, T, refl, sym, ap, subst, ◌∙◌}
use Rattle.std.specs.Prelude.{is_some, not}
use Rattle.std.specs.FinMap as map
use Rattle.std.specs.FinMap.Entries.{where_key}
use Rattle.std.specs.Ordering.{eq_by_cmp}
use Rattle.canvas_model.specs.declared.ObjId.{ObjId}
use Rattle.canvas_model.specs.Ids.{id_cmp, IsId}
use Rattle.canvas_model.specs.Document.{Doc, Object, live, place_of}
use Rattle.canvas_doc.specs.declared.spots.Spot.{Spot}
use Rattle.canvas_doc.specs.Known.{IsObject, HasObjects}
use Rattle.canvas_doc.specs.Sorted.{is_other}
use Rattle.canvas_doc.specs.Spots.{AreSpots}
use Rattle.canvas_doc.proofs.Maps.{exact_ids, ids_total, get_same, put_sorted, put_inserts, same_exact}
use Rattle.canvas_doc.proofs.Kept.{get_removed}
use Rattle.canvas_doc.proofs.Known.{row_put}
use Rattle.canvas_doc.proofs.Revised.{removed_doc, removed_sorted}

-- an object that was added and removed again
removed_again : (d : Doc) (id : ObjId) (o : Object) → map.get d id ≡ None → map.remove (map.insert d id o) id ≡ d
removed_again d id o dead = map.same_map ids_total exact_ids _ _ (λ q.
    get_removed ids_total exact_ids (map.insert d id o) id q
    ∙ ap (λ x. cond (is_other id_cmp id q) x None) (map.get-insert ids_total d id o q)
    ∙ again q (eq_by_cmp id_cmp q id) (λ e. ap (map.get d) (same_exact q id e) ∙ dead))
  where
    again : (q : ObjId) (b : Bool) → (b ≡ true → map.get d q ≡ None) → cond (not b) (cond b (Some o) (map.get d q)) None ≡ map.get d q
    again q true h = sym (h refl)
    again q false h = refl

-- the rows with one more, of an object that wasn't live
module _ (es fs : List (ObjId × Object)) (d : Doc) (id : ObjId) (o : Object) (sorted : T (map.is_sorted id_cmp es)) (view : map.from_sorted es ≡ d) (dead : map.get d id ≡ None) (put : fs ≡ map.put id_cmp id o es) where
  with_sorted : T (map.is_sorted id_cmp fs)
  with_sorted = put_sorted ids_total es fs id o sorted put

  with_doc : map.from_sorted fs ≡ map.insert d id o
  with_doc = put_inserts ids_total es fs d id o sorted view put

  pub with_live : live (map.from_sorted {R = id_cmp} fs) id ≡ true
  with_live = ap (λ d. live d id) with_doc ∙ ap is_some (get_same d id o)

  pub with_known : IsId id → IsObject o → HasObjects d → HasObjects (map.from_sorted {R = id_cmp} fs)
  with_known is known has = subst HasObjects (sym with_doc) (row_put d id o has is known)

  -- without it they are as before
  without_it : map.remove (map.from_sorted {R = id_cmp} fs) id ≡ map.from_sorted es
  without_it = ap (λ d. map.remove d id) with_doc ∙ removed_again d id o dead ∙ sym view

  pub spots_before : (spots : List Spot) → AreSpots (place_of (map.from_sorted es)) spots → AreSpots (place_of (map.remove (map.from_sorted {R = id_cmp} fs) id)) spots
  spots_before spots are = subst (λ d. AreSpots (place_of d) spots) (sym without_it) are

  pub rows_back : (gs : List (ObjId × Object)) → gs ≡ where_key id_cmp (is_other id_cmp id) fs → gs ≡ es
  rows_back gs taken =
      let less : T (map.is_sorted id_cmp gs) = removed_sorted fs gs (map.insert d id o) id with_sorted with_doc taken in
      sym (map.entries-from_sorted id_cmp gs less)
      ∙ ap map.entries (removed_doc fs gs (map.insert d id o) id with_sorted with_doc taken ∙ removed_again d id o dead ∙ sym view)
      ∙ map.entries-from_sorted id_cmp es sorted
