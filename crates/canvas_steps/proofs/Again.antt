-- Deleted objects that are created again.
use Rattle.std.proofs.Common.{◌≡◌, ◌≢◌, List, [], ◌∷◌, ◌++◌, refl, ap, sym, ◌∙◌, subst}
use Rattle.std.specs.Prelude.{is_some, Bool, true, false, cond, ◌||◌, Option, Some, None}
use Rattle.std.specs.List.{list_any}
use Rattle.std.specs.Cmp.Lexicographic.{nat_list_cmp_total}
use Rattle.std.specs.FinMap.{same_map, get-insert, get-remove, get-entries, get-from_entries, slice_cmp-IsAntisymmetric, nat_cmp-IsAntisymmetric}
use Rattle.std.specs.FinMap as map
use Rattle.canvas_model.specs.Value.{Value}
use Rattle.canvas_model.specs.declared.ObjId.{ObjId}
use Rattle.canvas_model.specs.declared.Kind.{Kind}
use Rattle.canvas_model.specs.Ids.{root, same_id}
use Rattle.canvas_model.specs.Document.{Name, Object, Place, new_object}
use Rattle.canvas_model.specs.Change.{Change, Create, Set}
use Rattle.canvas_model.specs.Overlay.{over}
use Rattle.canvas_model.specs.View.{is_about}
use Rattle.canvas_model.proofs.Ids.{id_total, same_id_true, id_itself, dead_none}
use Rattle.canvas_model.proofs.Overlay.{lay_at, over_at, get-over}
use Rattle.canvas_model.proofs.Owned.{any-append}
use Rattle.canvas_model.proofs.Fields.{untouched}
use Rattle.canvas_steps.specs.Again.{EachDeletionIsTakenBack, EachIsMadeAgain, making_again, setting}
use Rattle.canvas_steps.proofs.Back.{same_doc}

over_at-append : (q : ObjId) (xs : List Change) (change : Change) (x : Option Object) → over_at q (xs ++ change ∷ []) x ≡ lay_at q change (over_at q xs x)
over_at-append q [] change x = refl
over_at-append q (y ∷ xs) change x = over_at-append q xs change (lay_at q y x)

-- an object of these parts, at a place
abbrev parts : Kind → Place → List (Name × Value) → Object
parts kind place props = record { kind = kind; place = Some place; props = map.from_entries props }

filled : (id : ObjId) (kind : Kind) (place : Place) (props : List (Name × Value)) → over_at id (setting id props) (Some (parts kind place [])) ≡ Some (parts kind place props)
filled id kind place [] = refl
filled id kind place (prop ∷ props) =
    over_at-append id (setting id props) (Set id prop.0 (Some prop.1)) (Some (parts kind place []))
    ∙ ap (lay_at id (Set id prop.0 (Some prop.1))) (filled id kind place props)
    ∙ ap (λ b. cond b (Some (parts kind place (prop ∷ props))) (Some (parts kind place props))) (id_itself id)

-- an object is that of its parts
whole : (o : Object) (place : Place) → o.place ≡ Some place → parts o.kind place (map.entries o.props) ≡ o
whole o place h =
    let e : map.from_entries (map.entries o.props) ≡ o.props = same_map nat_list_cmp_total (slice_cmp-IsAntisymmetric nat_cmp-IsAntisymmetric) (map.from_entries (map.entries o.props)) o.props (λ q. get-from_entries nat_list_cmp_total (map.entries o.props) q ∙ sym (get-entries o.props q)) in
    λ i. record { kind = o.kind; place = sym h i; props = e i }

-- none of the changes is of another object
about_none : (q id : ObjId) → same_id q id ≡ false → (props : List (Name × Value)) → list_any (is_about q) (setting id props) ≡ false
about_none q id h [] = refl
about_none q id h (prop ∷ props) = any-append (is_about q) (setting id props) (Set id prop.0 (Some prop.1)) ∙ ap (λ b. b || same_id q id) (about_none q id h props) ∙ h

not_root : (id : ObjId) → id ≢ root → same_id id root ≡ false
not_root id apart = go (same_id id root) refl
  where
    go : (b : Bool) → same_id id root ≡ b → same_id id root ≡ false
    go true e = absurd (apart (same_id_true id root e))
    go false e = e

-- an object is created where none was
created : (id : ObjId) (kind : Kind) (place : Place) → id ≢ root → lay_at id (Create id kind place) None ≡ Some (parts kind place [])
created id kind place apart =
    ap (λ b. cond b None (cond (same_id id id) (Some (new_object kind (Some place))) None)) (not_root id apart)
    ∙ ap (λ b. cond b (Some (new_object kind (Some place))) None) (id_itself id)

pub each_is_made_again : EachIsMadeAgain
each_is_made_again view id place o dead apart h = same_doc (over view (making_again id place o)) (map.insert view id o) (λ q. at q (same_id q id) refl)
  where
    here : over_at id (making_again id place o) (map.get view id) ≡ Some o
    here =
        ap (over_at id (making_again id place o)) (dead_none view id dead)
        ∙ ap (over_at id (setting id (map.entries o.props))) (created id o.kind place apart)
        ∙ filled id o.kind place (map.entries o.props)
        ∙ ap Some (whole o place h)

    at : (q : ObjId) (b : Bool) → same_id q id ≡ b → map.get (over view (making_again id place o)) q ≡ map.get (map.insert view id o) q
    at q true e =
        get-over view (making_again id place o) q
        ∙ subst (λ r. over_at r (making_again id place o) (map.get view r) ≡ Some o) (sym (same_id_true q id e)) here
        ∙ sym (get-insert id_total view id o q ∙ ap (λ b. cond b (Some o) (map.get view q)) e)
    at q false e =
        get-over view (making_again id place o) q
        ∙ untouched q (making_again id place o) (map.get view q) (ap (λ b. b || list_any (is_about q) (setting id (map.entries o.props))) e ∙ about_none q id e (map.entries o.props))
        ∙ sym (get-insert id_total view id o q ∙ ap (λ b. cond b (Some o) (map.get view q)) e)

none_either : (b : Bool) (x : Option Object) → x ≡ None → cond b None x ≡ None
none_either true x e = refl
none_either false x e = e

pub each_deletion_is_taken_back : EachDeletionIsTakenBack
each_deletion_is_taken_back view id new place o was h apart dead new_apart =
    ap (λ b. over (cond b view (map.remove view id)) (making_again new place o)) (not_root id apart)
    ∙ each_is_made_again (map.remove view id) new place o (ap is_some (get-remove id_total view id new ∙ none_either (same_id new id) (map.get view new) (dead_none view new dead))) new_apart h
