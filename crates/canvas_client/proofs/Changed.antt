-- Documents of which one object, or some, were changed.
use Rattle.std.proofs.Common.{◌≡◌, ℕ, ◌+◌, true, false, cond, List, [], ◌∷◌, ◌++◌, drop, Option, Some, None, ap, sym, ◌∙◌, zero, suc, arith}
use Rattle.std.specs.List.{list_any}
use Rattle.std.specs.Option.{option_map}
use Rattle.std.specs.FinMap as map
use Rattle.std.specs.Prelude.{slice_get}
use Rattle.std.proofs.lemmas.Option.{none-some, same_Some}
use Rattle.canvas_model.specs.declared.ObjId.{ObjId}
use Rattle.canvas_model.specs.declared.Kind.{Kind}
use Rattle.canvas_model.specs.Value.{Value}
use Rattle.canvas_model.specs.Document.{Doc, Place, Name, live, revise, without, new_object, with_place, with_prop}
use Rattle.canvas_model.specs.Change.{Change}
use Rattle.canvas_model.specs.Overlay.{lay, over}
use Rattle.canvas_model.specs.View.{moves_it, sets_it, deletes_it, placed, valued, added}
use Rattle.canvas_doc.proofs.Laid.{rewritten}
use Rattle.canvas_doc.proofs.Without.{without_next}
use Rattle.canvas_model.proofs.Ids.{dead_none}

module _ (d : Doc) (staying : List Change) (id : ObjId) where
  -- an edit that stays moves it
  pub place_stays : (place : Place) → list_any (moves_it id) staying ≡ true → d ≡ revise d id (placed staying id place (map.get d id))
  place_stays place moved = rewritten d id ∙ sym (ap (λ b. revise d id (cond b (map.get d id) (option_map (with_place place) (map.get d id)))) moved)

  -- an edit that stays sets it
  pub value_stays : (name : Name) (value : Option Value) → list_any (sets_it id name) staying ≡ true → d ≡ revise d id (valued staying id name value (map.get d id))
  value_stays name value set = rewritten d id ∙ sym (ap (λ b. revise d id (cond b (map.get d id) (option_map (with_prop name value) (map.get d id)))) set)

  -- none sets it
  pub value_set : (name : Name) (value : Option Value) (n : Doc) → list_any (sets_it id name) staying ≡ false → n ≡ revise d id (option_map (with_prop name value) (map.get d id)) → n ≡ revise d id (valued staying id name value (map.get d id))
  value_set name value n none is = is ∙ sym (ap (λ b. revise d id (cond b (map.get d id) (option_map (with_prop name value) (map.get d id)))) none)

  -- it isn't shown, and an edit that stays deletes it
  pub added_deleted : (kind : Kind) (place : Place) → live d id ≡ false → list_any (deletes_it id) staying ≡ true → d ≡ revise d id (added staying id kind place (map.get d id))
  added_deleted kind place dead deleted =
      let none = dead_none d id dead in
      rewritten d id ∙ ap (revise d id) none ∙ sym (ap (λ x. revise d id (added staying id kind place x)) none ∙ ap (λ b. revise d id (cond b None (Some (new_object kind (Some place))))) deleted)

  -- it isn't shown, and none deletes it
  pub added_new : (kind : Kind) (place : Place) (n : Doc) → live d id ≡ false → list_any (deletes_it id) staying ≡ false → n ≡ revise d id (Some (new_object kind (Some place))) → n ≡ revise d id (added staying id kind place (map.get d id))
  added_new kind place n dead kept is =
      let none = dead_none d id dead in
      is ∙ sym (ap (λ x. revise d id (added staying id kind place x)) none ∙ ap (λ b. revise d id (cond b None (Some (new_object kind (Some place))))) kept)

-- one more object taken away
pub one_more : (d n m : Doc) (ids : List ObjId) (id : ObjId) → n ≡ without d ids → m ≡ map.remove n id → m ≡ without d (ids ++ id ∷ [])
one_more d n m ids id so_far now = now ∙ ap (λ n. map.remove n id) so_far ∙ without_next d ids id

-- one more of the changes that wait laid over it
pub laid_next : (d n : Doc) (changes : List Change) (i : ℕ) (x : Change) → slice_get changes i ≡ Some x → n ≡ lay d x → over n (drop (i + 1) changes) ≡ over d (drop i changes)
laid_next d n changes i x there now = ap (λ n. over n (drop (i + 1) changes)) now ∙ ap (over d) (sym (cut changes i there))
  where
    cut : (changes : List Change) (i : ℕ) → slice_get changes i ≡ Some x → drop i changes ≡ x ∷ drop (i + 1) changes
    cut [] i there = absurd (none-some x there)
    cut (y ∷ changes) zero there = ap (λ y. y ∷ changes) (same_Some y x there)
    cut (y ∷ changes) (suc i) there = cut changes i there ∙ ap (λ k. x ∷ drop k (y ∷ changes)) (later i)
      where
        later : (i : ℕ) → suc (i + 1) ≡ suc i + 1
        later i = omega arith
