-- Changes that undo other changes.
use Rattle.std.proofs.Common.{◌≡◌, [], ◌∷◌, refl, ap, sym, ◌∙◌, subst}
use Rattle.std.specs.Prelude.{Bool, true, false, cond, Option, Some, None}
use Rattle.std.specs.Option.{option_map, option_and_then}
use Rattle.std.specs.Cmp.Lexicographic.{nat_list_cmp_total}
use Rattle.std.specs.FinMap.{same_map, slice_cmp-IsAntisymmetric, nat_cmp-IsAntisymmetric}
use Rattle.std.specs.FinMap as map
use Rattle.canvas_model.specs.Value.{Value}
use Rattle.canvas_model.specs.declared.ObjId.{ObjId}
use Rattle.canvas_model.specs.declared.Kind.{Kind}
use Rattle.canvas_model.specs.Ids.{root, same_id}
use Rattle.canvas_model.specs.Document.{Doc, Name, Object, Place, live, place_of, prop_of, with_place, with_prop}
use Rattle.canvas_model.specs.Change.{Change, Create, Set, Move, Delete}
use Rattle.canvas_model.specs.Overlay.{laid, lay, over}
use Rattle.canvas_model.specs.View.{same_name}
use Rattle.canvas_model.proofs.Ids.{id_apart, id_total, same_id_true, dead_none}
use Rattle.canvas_model.proofs.Overlay.{lay_at, get-lay, get-over, over-append}
use Rattle.canvas_model.proofs.Fields as fields
use Rattle.canvas_steps.specs.Back.{EachChangeIsTakenBack, EachOtherStays, EachStepIsTakenBack, taking_back}

-- documents with equal objects are equal
pub same_doc : (d e : Doc) → ((q : ObjId) → map.get d q ≡ map.get e q) → d ≡ e
same_doc d e h = same_map id_total id_apart d e h

-- a property set to the value that it has
value_again : (o : Object) (name : Name) → with_prop name (map.get o.props name) o ≡ o
value_again o name =
    let e : (with_prop name (map.get o.props name) o).props ≡ o.props = same_map nat_list_cmp_total (slice_cmp-IsAntisymmetric nat_cmp-IsAntisymmetric) (with_prop name (map.get o.props name) o).props o.props (λ q. fields.prop_of o name (map.get o.props name) q ∙ here q (same_name q name) refl) in
    let k = fields.kind_kept name (map.get o.props name) o in
    let p = fields.place_kept name (map.get o.props name) o in
    λ i. record { kind = k i; place = p i; props = e i }
  where
    here : (q : Name) (b : Bool) → same_name q name ≡ b → cond b (map.get o.props name) (map.get o.props q) ≡ map.get o.props q
    here q true h = ap (map.get o.props) (sym (fields.same_name_true q name h))
    here q false h = refl

-- an object moved to the place that it has
place_again : (o : Object) (was : Place) → o.place ≡ Some was → with_place was o ≡ o
place_again o was h = λ i. record { kind = o.kind; place = sym h i; props = o.props }

set_back : (id : ObjId) (name : Name) (value : Option Value) (q : ObjId) (x y : Option Object) → (same_id q id ≡ true → x ≡ y)
    → lay_at q (Set id name (option_and_then (λ o. map.get o.props name) y)) (lay_at q (Set id name value) x) ≡ x
set_back id name value q x y h = go (same_id q id) h
  where
    here : (x : Option Object) → option_map (with_prop name (option_and_then (λ o. map.get o.props name) x)) (option_map (with_prop name value) x) ≡ x
    here None = refl
    here (Some o) = ap Some (fields.prop_twice name (map.get o.props name) value o ∙ value_again o name)

    go : (b : Bool) → (b ≡ true → x ≡ y) → cond b (option_map (with_prop name (option_and_then (λ o. map.get o.props name) y)) (cond b (option_map (with_prop name value) x) x)) (cond b (option_map (with_prop name value) x) x) ≡ x
    go true h = subst (λ z. option_map (with_prop name (option_and_then (λ o. map.get o.props name) z)) (option_map (with_prop name value) x) ≡ x) (h refl) (here x)
    go false h = refl

move_back : (id : ObjId) (place was : Place) (q : ObjId) (x : Option Object) → (same_id q id ≡ true → option_and_then (λ o. o.place) x ≡ Some was)
    → lay_at q (Move id was) (lay_at q (Move id place) x) ≡ x
move_back id place was q x h = go (same_id id root) (same_id q id) h
  where
    here : (x : Option Object) → option_and_then (λ o. o.place) x ≡ Some was → option_map (with_place was) (option_map (with_place place) x) ≡ x
    here None h = refl
    here (Some o) h = ap Some (place_again o was h)

    go : (a b : Bool) → (b ≡ true → option_and_then (λ o. o.place) x ≡ Some was)
        → cond a (cond a x (cond b (option_map (with_place place) x) x)) (cond b (option_map (with_place was) (cond a x (cond b (option_map (with_place place) x) x))) (cond a x (cond b (option_map (with_place place) x) x))) ≡ x
    go true b h = refl
    go false true h = here x (h refl)
    go false false h = refl

create_back : (id : ObjId) (kind : Kind) (place : Place) (q : ObjId) (x : Option Object) → (same_id q id ≡ true → x ≡ None)
    → lay_at q (Delete id) (lay_at q (Create id kind place) x) ≡ x
create_back id kind place q x h = go (same_id id root) (same_id q id) h
  where
    go : (a b : Bool) → (b ≡ true → x ≡ None)
        → cond a (cond a x (cond b (laid (Create id kind place) x) x)) (cond b None (cond a x (cond b (laid (Create id kind place) x) x))) ≡ x
    go true b h = refl
    go false true h = sym (h refl)
    go false false h = refl

-- at each object
back_at : (view : Doc) (change back : Change) → taking_back view change ≡ Some back → (q : ObjId) → lay_at q back (lay_at q change (map.get view q)) ≡ map.get view q
back_at view (Create id kind place) back h q = go (live view id) refl h
  where
    go : (b : Bool) → live view id ≡ b → cond b None (Some (Delete id)) ≡ Some back → lay_at q back (lay_at q (Create id kind place) (map.get view q)) ≡ map.get view q
    go true e h = absurd (cc)
    go false e h =
        let is : Delete id ≡ back = cc in
        subst (λ c. lay_at q c (lay_at q (Create id kind place) (map.get view q)) ≡ map.get view q) is
        (create_back id kind place q (map.get view q) (λ s. ap (map.get view) (same_id_true q id s) ∙ dead_none view id e))
back_at view (Set id name value) back h q =
    let is : Set id name (prop_of view id name) ≡ back = cc in
    subst (λ c. lay_at q c (lay_at q (Set id name value) (map.get view q)) ≡ map.get view q) is
    (set_back id name value q (map.get view q) (map.get view id) (λ s. ap (map.get view) (same_id_true q id s)))
back_at view (Move id place) back h q = go (place_of view id) refl h
  where
    go : (x : Option Place) → place_of view id ≡ x → option_map (Move id) x ≡ Some back → lay_at q back (lay_at q (Move id place) (map.get view q)) ≡ map.get view q
    go None e h = absurd (cc)
    go (Some was) e h =
        let is : Move id was ≡ back = cc in
        subst (λ c. lay_at q c (lay_at q (Move id place) (map.get view q)) ≡ map.get view q) is
        (move_back id place was q (map.get view q) (λ s. ap (place_of view) (same_id_true q id s) ∙ e))
back_at view (Delete id) back h q = absurd (cc)

pub each_change_is_taken_back : EachChangeIsTakenBack
each_change_is_taken_back view change back h = same_doc (lay (lay view change) back) view (λ q. get-lay (lay view change) back q ∙ ap (lay_at q back) (get-lay view change q) ∙ back_at view change back h q)

pub each_step_is_taken_back : EachStepIsTakenBack
each_step_is_taken_back view [] back h = ap (over view) h
each_step_is_taken_back view (change ∷ step) back (one, rest, first, later, is) =
    ap (over (over (lay view change) step)) is
    ∙ over-append (over (lay view change) step) rest one
    ∙ ap (λ d. lay d one) (each_step_is_taken_back (lay view change) step rest later)
    ∙ each_change_is_taken_back view change one first

pub each_other_stays : EachOtherStays
each_other_stays view back q h = get-over view back q ∙ fields.untouched q back (map.get view q) h
