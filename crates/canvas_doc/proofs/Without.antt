-- Documents of which one object after another was removed.
use Rattle.std.proofs.Common.{◌≡◌, Bool, true, false, cond, ◌||◌, List, [], ◌∷◌, ◌++◌, None, reverse, refl, sym, ap, ◌∙◌}
use Rattle.std.specs.Prelude.{not}
use Rattle.std.specs.List.{list_any}
use Rattle.std.specs.FinMap as map
use Rattle.std.proofs.lemmas.List.Folds.{list_any-append}
use Rattle.std.proofs.lemmas.List.Sorted.{IsPermutation-reverse, list_any-IsPermutation}
use Rattle.canvas_model.specs.declared.ObjId.{ObjId}
use Rattle.canvas_model.specs.Ids.{id_cmp, same_id}
use Rattle.canvas_model.specs.Document.{Doc, without}
use Rattle.canvas_doc.specs.Sorted.{is_other}
use Rattle.canvas_doc.proofs.Maps.{exact_ids, ids_total}
use Rattle.canvas_doc.proofs.Kept.{get_removed}

abbrev stays : List ObjId → ObjId → Bool
stays ids q = not (list_any (same_id q) ids)

get_without : (d : Doc) (ids : List ObjId) (q : ObjId) → map.get (without d ids) q ≡ cond (stays ids q) (map.get d q) None
get_without d ids q = map.get-retain_keys d (stays ids) q (λ x tied. ap (stays ids) (sym (exact_ids q x tied)))

-- none removed yet
pub without_none : (d : Doc) → d ≡ without d []
without_none d = map.same_map ids_total exact_ids d (without d []) (λ q. sym (get_without d [] q))

both : {X : Type 0} (a b : Bool) (x y : X) → cond (not b) (cond (not a) x y) y ≡ cond (not (a || (b || false))) x y
both true true x y = refl
both true false x y = refl
both false true x y = refl
both false false x y = refl

-- one more removed
pub without_next : (d : Doc) (ids : List ObjId) (e : ObjId) → map.remove (without d ids) e ≡ without d (ids ++ e ∷ [])
without_next d ids e = map.same_map ids_total exact_ids _ _ (λ q.
    get_removed ids_total exact_ids (without d ids) e q
    ∙ ap (λ r. cond (is_other id_cmp e q) r None) (get_without d ids q)
    ∙ both (list_any (same_id q) ids) (same_id q e) (map.get d q) None
    ∙ sym (ap (λ b. cond (not b) (map.get d q) None) (list_any-append (same_id q) ids (e ∷ [])))
    ∙ sym (get_without d (ids ++ e ∷ []) q))

-- the order in which they are removed doesn't matter
pub without_reverse : (d : Doc) (ids : List ObjId) → without d (reverse ids) ≡ without d ids
without_reverse d ids = map.same_map ids_total exact_ids _ _ (λ q.
    get_without d (reverse ids) q
    ∙ ap (λ b. cond (not b) (map.get d q) None) (sym (list_any-IsPermutation (same_id q) ids (reverse ids) (IsPermutation-reverse ids)))
    ∙ sym (get_without d ids q))
