-- Steps of acts: changes that undo edits, and are made the last one first.
use Rattle.std.proofs.Common.{◌≡◌, ◌⊎◌, inl, inr, ◌-◌, List, [], ◌∷◌, ◌++◌, length, drop, length-append, arith, refl, ap, sym, ◌∙◌, subst}
use Rattle.std.specs.Prelude.{Bool, true, false, not, cond, ◌||◌, ◌&&◌, Option, Some, None}
use Rattle.std.specs.Option.{option_map}
use Rattle.std.specs.List.{list_any}
use Rattle.std.specs.FinMap as map
use Rattle.std.proofs.Math.Seq.{drop-append_seam}
use Rattle.canvas_model.specs.Value.{Value}
use Rattle.canvas_model.specs.declared.ObjId.{ObjId}
use Rattle.canvas_model.specs.Ids.{root, same_id}
use Rattle.canvas_model.specs.Document.{Doc, Name, Object, Place, live, place_of, prop_of, with_prop}
use Rattle.canvas_model.specs.Change.{Change, Create, Set, Move, Delete}
use Rattle.canvas_model.specs.Overlay.{laid, lay}
use Rattle.canvas_model.specs.View.{creates_it, deletes_it, moves_it, sets_it}
use Rattle.canvas_model.proofs.Ids.{same_id_true}
use Rattle.canvas_model.proofs.Overlay.{lay_at, get-lay}
use Rattle.canvas_model.proofs.Fields.{prop_step}
use Rattle.canvas_steps.specs.Back.{taking_back}
use Rattle.canvas_steps.specs.Undo.{EachNoteRestores, covers, noted, undone}
use Rattle.canvas_steps.proofs.Back.{each_change_is_taken_back, same_doc}
use Rattle.canvas_steps.proofs.Fold.{move_folds}

-- one object after acts, the last one first
abbrev undone_at : ObjId → List Change → Option Object → Option Object
undone_at q [] x = x
undone_at q (act ∷ acts) x = lay_at q act (undone_at q acts x)

get-undone : (d : Doc) (acts : List Change) (q : ObjId) → map.get (undone d acts) q ≡ undone_at q acts (map.get d q)
get-undone d [] q = refl
get-undone d (act ∷ acts) q = get-lay (undone d acts) act q ∙ ap (lay_at q act) (get-undone d acts q)

undone-append : (d : Doc) (acts : List Change) (act : Change) → undone d (acts ++ act ∷ []) ≡ undone (lay d act) acts
undone-append d [] act = refl
undone-append d (other ∷ acts) act = ap (λ e. lay e other) (undone-append d acts act)

-- a creation leaves an object that is there
kept : (q : ObjId) (act : Change) → creates_it q act ≡ true → (o : Object) → lay_at q act (Some o) ≡ Some o
kept q (Create id kind place) hit o = go (same_id id root) (same_id q id)
  where
    go : (a b : Bool) → cond a (Some o) (cond b (laid (Create id kind place) (Some o)) (Some o)) ≡ Some o
    go true b = refl
    go false true = refl
    go false false = refl
kept q (Set id name value) hit o = absurd (cc)
kept q (Move id place) hit o = absurd (cc)
kept q (Delete id) hit o = absurd (cc)

-- it neither sets a property nor deletes
writes_none : (q : ObjId) (name : Name) (act : Change) → creates_it q act ≡ true → (sets_it q name act ≡ false) × (deletes_it q act ≡ false)
writes_none q name (Create id kind place) hit = (refl, refl)
writes_none q name (Set id other value) hit = absurd (cc)
writes_none q name (Move id place) hit = absurd (cc)
writes_none q name (Delete id) hit = absurd (cc)

-- a deletion leaves no object
gone : (q : ObjId) (act : Change) → deletes_it q act ≡ true → (y : Option Object) → lay_at q act y ≡ None
gone q (Delete id) hit y = go (same_id id root) (same_id q id) hit
  where
    go : (a b : Bool) → (b && not a) ≡ true → cond a y (cond b None y) ≡ None
    go true true h = absurd (cc)
    go true false h = absurd (cc)
    go false true h = refl
    go false false h = absurd (cc)
gone q (Create id kind place) hit y = absurd (cc)
gone q (Set id name value) hit y = absurd (cc)
gone q (Move id place) hit y = absurd (cc)

-- a property that was set before acts of which one sets it again, or deletes the object
module _ (q : ObjId) (name : Name) (w : Option Value) where
  step : (act : Change) (y : Option Object) → (lay_at q act (option_map (with_prop name w) y) ≡ lay_at q act y)
      ⊎ ((sets_it q name act ≡ false) × (deletes_it q act ≡ false) × (lay_at q act (option_map (with_prop name w) y) ≡ option_map (with_prop name w) (lay_at q act y)))
  step act None = inl refl
  step act (Some o) = by (creates_it q act) refl
    where
      told : creates_it q act ≡ false → lay_at q act (Some (with_prop name w o)) ≡ cond (sets_it q name act) (lay_at q act (Some o)) (option_map (with_prop name w) (lay_at q act (Some o)))
      told none = prop_step q name w act none (Some o)

      case : (s d : Bool) → sets_it q name act ≡ s → deletes_it q act ≡ d → creates_it q act ≡ false → (lay_at q act (Some (with_prop name w o)) ≡ lay_at q act (Some o))
          ⊎ ((sets_it q name act ≡ false) × (deletes_it q act ≡ false) × (lay_at q act (Some (with_prop name w o)) ≡ option_map (with_prop name w) (lay_at q act (Some o))))
      case true d s e none = inl (told none ∙ ap (λ b. cond b (lay_at q act (Some o)) (option_map (with_prop name w) (lay_at q act (Some o)))) s)
      case false true s e none = inl (gone q act e (Some (with_prop name w o)) ∙ sym (gone q act e (Some o)))
      case false false s e none = inr (s, e, told none ∙ ap (λ b. cond b (lay_at q act (Some o)) (option_map (with_prop name w) (lay_at q act (Some o)))) s)

      by : (b : Bool) → creates_it q act ≡ b → (lay_at q act (Some (with_prop name w o)) ≡ lay_at q act (Some o))
          ⊎ ((sets_it q name act ≡ false) × (deletes_it q act ≡ false) × (lay_at q act (Some (with_prop name w o)) ≡ option_map (with_prop name w) (lay_at q act (Some o))))
      by true made = let none = writes_none q name act made in inr (none.0, none.1, kept q act made (with_prop name w o) ∙ sym (ap (option_map (with_prop name w)) (kept q act made o)))
      by false none = case (sets_it q name act) (deletes_it q act) refl refl none

  hides : (acts : List Change) (x : Option Object) → (undone_at q acts (option_map (with_prop name w) x) ≡ undone_at q acts x)
      ⊎ ((list_any (sets_it q name) acts ≡ false) × (list_any (deletes_it q) acts ≡ false) × (undone_at q acts (option_map (with_prop name w) x) ≡ option_map (with_prop name w) (undone_at q acts x)))
  hides [] x = inr (refl, refl, refl)
  hides (act ∷ acts) x = by (hides acts x)
    where
      by : ((undone_at q acts (option_map (with_prop name w) x) ≡ undone_at q acts x) ⊎ ((list_any (sets_it q name) acts ≡ false) × (list_any (deletes_it q) acts ≡ false) × (undone_at q acts (option_map (with_prop name w) x) ≡ option_map (with_prop name w) (undone_at q acts x))))
          → (undone_at q (act ∷ acts) (option_map (with_prop name w) x) ≡ undone_at q (act ∷ acts) x)
          ⊎ ((list_any (sets_it q name) (act ∷ acts) ≡ false) × (list_any (deletes_it q) (act ∷ acts) ≡ false) × (undone_at q (act ∷ acts) (option_map (with_prop name w) x) ≡ option_map (with_prop name w) (undone_at q (act ∷ acts) x)))
      by (inl e) = inl (ap (lay_at q act) e)
      by (inr (s, d, e)) = go (step act (undone_at q acts x))
        where
          go : ((lay_at q act (option_map (with_prop name w) (undone_at q acts x)) ≡ lay_at q act (undone_at q acts x))
              ⊎ ((sets_it q name act ≡ false) × (deletes_it q act ≡ false) × (lay_at q act (option_map (with_prop name w) (undone_at q acts x)) ≡ option_map (with_prop name w) (lay_at q act (undone_at q acts x)))))
              → (undone_at q (act ∷ acts) (option_map (with_prop name w) x) ≡ undone_at q (act ∷ acts) x)
              ⊎ ((list_any (sets_it q name) (act ∷ acts) ≡ false) × (list_any (deletes_it q) (act ∷ acts) ≡ false) × (undone_at q (act ∷ acts) (option_map (with_prop name w) x) ≡ option_map (with_prop name w) (undone_at q (act ∷ acts) x)))
          go (inl l) = inl (ap (lay_at q act) e ∙ l)
          go (inr (t, u, l)) = inr (ap (λ b. b || list_any (sets_it q name) acts) t ∙ s, ap (λ b. b || list_any (deletes_it q) acts) u ∙ d, ap (lay_at q act) e ∙ l)

  covered : (acts : List Change) (x : Option Object) → (list_any (sets_it q name) acts || list_any (deletes_it q) acts) ≡ true → undone_at q acts (option_map (with_prop name w) x) ≡ undone_at q acts x
  covered acts x some = by (hides acts x)
    where
      by : ((undone_at q acts (option_map (with_prop name w) x) ≡ undone_at q acts x) ⊎ ((list_any (sets_it q name) acts ≡ false) × (list_any (deletes_it q) acts ≡ false) × (undone_at q acts (option_map (with_prop name w) x) ≡ option_map (with_prop name w) (undone_at q acts x))))
          → undone_at q acts (option_map (with_prop name w) x) ≡ undone_at q acts x
      by (inl e) = e
      by (inr (s, d, e)) = absurd (let none : (list_any (sets_it q name) acts || list_any (deletes_it q) acts) ≡ false = ap (λ b. b || list_any (deletes_it q) acts) s ∙ d in cc)

  set_left_out : (view : Doc) (acts : List Change) → (list_any (sets_it q name) acts || list_any (deletes_it q) acts) ≡ true → undone (lay view (Set q name w)) acts ≡ undone view acts
  set_left_out view acts some =
      same_doc (undone (lay view (Set q name w)) acts) (undone view acts)
      (λ r. get-undone (lay view (Set q name w)) acts r ∙ ap (undone_at r acts) (get-lay view (Set q name w) r) ∙ at r (same_id r q) refl ∙ sym (get-undone view acts r))
    where
      at : (r : ObjId) (b : Bool) → same_id r q ≡ b → undone_at r acts (lay_at r (Set q name w) (map.get view r)) ≡ undone_at r acts (map.get view r)
      at r true e =
          ap (λ b. undone_at r acts (cond b (option_map (with_prop name w) (map.get view r)) (map.get view r))) e
          ∙ subst (λ s. undone_at s acts (option_map (with_prop name w) (map.get view s)) ≡ undone_at s acts (map.get view s)) (sym (same_id_true r q e)) (covered acts (map.get view q) some)
      at r false e = ap (λ b. undone_at r acts (cond b (option_map (with_prop name w) (map.get view r)) (map.get view r))) e

-- a list is empty or has a last one
snoc : (acts : List Change) → (acts ≡ []) ⊎ ((init : List Change) × (last : Change) × (acts ≡ init ++ last ∷ []))
snoc [] = inl refl
snoc (act ∷ acts) = by (snoc acts)
  where
    by : ((acts ≡ []) ⊎ ((init : List Change) × (last : Change) × (acts ≡ init ++ last ∷ []))) → (act ∷ acts ≡ []) ⊎ ((init : List Change) × (last : Change) × (act ∷ acts ≡ init ++ last ∷ []))
    by (inl e) = inr ([], act, ap (λ xs. act ∷ xs) e)
    by (inr (init, last, e)) = inr (act ∷ init, last, ap (λ xs. act ∷ xs) e)

-- a move before an act that moves the same object
moved_twice : (id : ObjId) (place : Place) (act : Change) → moves_it id act ≡ true → (view : Doc) → lay (lay view (Move id place)) act ≡ lay view act
moved_twice id place (Move other was) hit view =
    same_doc (lay (lay view (Move id place)) (Move other was)) (lay view (Move other was))
    (λ q. get-lay (lay view (Move id place)) (Move other was) q ∙ ap (lay_at q (Move other was)) (get-lay view (Move id place) q) ∙ at q ∙ sym (get-lay view (Move other was) q))
  where
    left : (a b : Bool) → (a && b) ≡ true → a ≡ true
    left true b e = refl
    left false b e = absurd (cc)

    at : (q : ObjId) → lay_at q (Move other was) (lay_at q (Move id place) (map.get view q)) ≡ lay_at q (Move other was) (map.get view q)
    at q = subst (λ i. lay_at q (Move i was) (lay_at q (Move id place) (map.get view q)) ≡ lay_at q (Move i was) (map.get view q)) (same_id_true id other (left (same_id id other) (not (same_id other root)) hit))
        (sym (move_folds id place was [] refl refl q (map.get view q)))
moved_twice id place (Create other kind was) hit view = absurd (cc)
moved_twice id place (Set other name value) hit view = absurd (cc)
moved_twice id place (Delete other) hit view = absurd (cc)

move_left_out : (id : ObjId) (place : Place) (acts : List Change) → list_any (moves_it id) (drop (length acts - 1) acts) ≡ true → (view : Doc) → undone (lay view (Move id place)) acts ≡ undone view acts
move_left_out id place acts some view = by (snoc acts)
  where
    by : ((acts ≡ []) ⊎ ((init : List Change) × (last : Change) × (acts ≡ init ++ last ∷ []))) → undone (lay view (Move id place)) acts ≡ undone view acts
    by (inl e) = absurd (let none : list_any (moves_it id) (drop (length acts - 1) acts) ≡ false = ap (λ xs. list_any (moves_it id) (drop (length xs - 1) xs)) e in cc)
    by (inr (init, last, e)) =
        let long : length (init ++ last ∷ []) - 1 ≡ length init = (let l = length-append init (last ∷ []) in omega (arith, l)) in
        let ends : drop (length acts - 1) acts ≡ last ∷ [] = ap (λ xs. drop (length xs - 1) xs) e ∙ ap (λ n. drop n (init ++ last ∷ [])) long ∙ drop-append_seam init (last ∷ []) in
        let hit : (moves_it id last || false) ≡ true = sym (ap (list_any (moves_it id)) ends) ∙ some in
        ap (undone (lay view (Move id place))) e
        ∙ undone-append (lay view (Move id place)) init last
        ∙ ap (λ d. undone d init) (moved_twice id place last (alone (moves_it id last) hit) view)
        ∙ sym (undone-append view init last)
        ∙ sym (ap (undone view) e)
      where
        alone : (b : Bool) → (b || false) ≡ true → b ≡ true
        alone true e = refl
        alone false e = e

-- one more act, or none where the acts cover it
noted_so : (view before : Doc) (change act : Change) (acts : List Change) → taking_back view change ≡ Some act → undone view acts ≡ before
    → (covers acts act ≡ true → undone (lay view change) acts ≡ undone view acts) → undone (lay view change) (noted act acts) ≡ before
noted_so view before change act acts back was hides = by (covers acts act) refl
  where
    by : (b : Bool) → covers acts act ≡ b → undone (lay view change) (cond b acts (acts ++ act ∷ [])) ≡ before
    by true e = hides e ∙ was
    by false e = undone-append (lay view change) acts act ∙ ap (λ d. undone d acts) (each_change_is_taken_back view change act back) ∙ was

pub each_note_restores : EachNoteRestores
each_note_restores view before (Create id kind place) act acts back was = by (live view id) refl back
  where
    by : (b : Bool) → live view id ≡ b → cond b None (Some (Delete id)) ≡ Some act → undone (lay view (Create id kind place)) (noted act acts) ≡ before
    by true e h = absurd (cc)
    by false e h =
        let is : Delete id ≡ act = cc in
        noted_so view before (Create id kind place) act acts back was (λ hit. absurd (let none : covers acts act ≡ false = sym (ap (covers acts) is) in cc))
each_note_restores view before (Set id name value) act acts back was =
    let is : Set id name (prop_of view id name) ≡ act = cc in
    noted_so view before (Set id name value) act acts back was (λ hit. set_left_out id name value view acts (ap (covers acts) is ∙ hit))
each_note_restores view before (Move id place) act acts back was = by (place_of view id) refl back
  where
    by : (x : Option Place) → place_of view id ≡ x → option_map (Move id) x ≡ Some act → undone (lay view (Move id place)) (noted act acts) ≡ before
    by None e h = absurd (cc)
    by (Some place_was) e h =
        let is : Move id place_was ≡ act = cc in
        noted_so view before (Move id place) act acts back was (λ hit. move_left_out id place acts (ap (covers acts) is ∙ hit) view)
each_note_restores view before (Delete id) act acts back was = absurd (cc)
