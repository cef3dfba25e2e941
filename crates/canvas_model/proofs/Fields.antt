-- What a list of changes makes of one field.
use Rattle.std.proofs.Common.{◌≡◌, List, [], ◌∷◌, refl, ap, sym, ◌∙◌, subst}
use Rattle.std.specs.Prelude.{Bool, true, false, not, cond, ◌&&◌, ◌||◌, Option, Some, None}
use Rattle.std.specs.Option.{option_map}
use Rattle.std.specs.List.{list_any}
use Rattle.std.specs.Ordering.{is_eq}
use Rattle.std.specs.Cmp.{tied_itself}
use Rattle.std.specs.Cmp.Lexicographic.{nat_list_cmp_total}
use Rattle.std.specs.FinMap.{same_map, get-insert, get-remove, slice_cmp-IsAntisymmetric, nat_cmp-IsAntisymmetric}
use Rattle.std.specs.FinMap as map
use Rattle.canvas_model.specs.Value.{Value}
use Rattle.canvas_model.specs.declared.ObjId.{ObjId}
use Rattle.canvas_model.specs.Ids.{root, same_id}
use Rattle.canvas_model.specs.Document.{Place, Name, name_cmp, Object, new_object, with_prop, with_place}
use Rattle.canvas_model.specs.Change.{Change, Create, Set, Move, Delete}
use Rattle.canvas_model.specs.Overlay.{laid, is_idle}
use Rattle.canvas_model.specs.View.{same_name, creates_it, sets_it, moves_it, deletes_it, is_about}
use Rattle.std.proofs.lemmas.Bool.{or_parts}
use Rattle.canvas_model.proofs.Ids.{equal_of}
use Rattle.canvas_model.proofs.Overlay.{lay_at, over_at}

-- the fields of one object's properties
pub prop_of : (o : Object) (name : Name) (value : Option Value) (q : Name) → map.get (with_prop name value o).props q ≡ cond (same_name q name) value (map.get o.props q)
prop_of o name None q = get-remove nat_list_cmp_total o.props name q
prop_of o name (Some v) q = get-insert nat_list_cmp_total o.props name v q

same_object : (o p : Object) → o.kind ≡ p.kind → o.place ≡ p.place → ((q : Name) → map.get o.props q ≡ map.get p.props q) → o ≡ p
same_object o p k l m = let e = same_map nat_list_cmp_total (slice_cmp-IsAntisymmetric nat_cmp-IsAntisymmetric) o.props p.props m in λ i. record { kind = k i; place = l i; props = e i }

pub kind_kept : (name : Name) (value : Option Value) (o : Object) → (with_prop name value o).kind ≡ o.kind
kind_kept name None o = refl
kind_kept name (Some v) o = refl

pub place_kept : (name : Name) (value : Option Value) (o : Object) → (with_prop name value o).place ≡ o.place
place_kept name None o = refl
place_kept name (Some v) o = refl

pub same_name_true : (x y : Name) → same_name x y ≡ true → x ≡ y
same_name_true x y e = slice_cmp-IsAntisymmetric nat_cmp-IsAntisymmetric x y (equal_of (name_cmp x y) e)

pub name_itself : (x : Name) → same_name x x ≡ true
name_itself x = ap is_eq (tied_itself nat_list_cmp_total x)

shadow : {A : Type 0} (b : Bool) (x y z : A) → cond b x (cond b y z) ≡ cond b x z
shadow true x y z = refl
shadow false x y z = refl

-- the later of two values of one name stays
pub prop_twice : (name : Name) (v w : Option Value) (o : Object) → with_prop name v (with_prop name w o) ≡ with_prop name v o
prop_twice name v w o =
    same_object (with_prop name v (with_prop name w o)) (with_prop name v o)
    (kind_kept name v (with_prop name w o) ∙ kind_kept name w o ∙ sym (kind_kept name v o))
    (place_kept name v (with_prop name w o) ∙ place_kept name w o ∙ sym (place_kept name v o))
    (λ q. prop_of (with_prop name w o) name v q ∙ ap (cond (same_name q name) v) (prop_of o name w q) ∙ shadow (same_name q name) v w (map.get o.props q) ∙ sym (prop_of o name v q))

swapped : {A : Type 0} (a b : Bool) (x y z : A) → (a ≡ true → b ≡ true → ⊥) → cond a x (cond b y z) ≡ cond b y (cond a x z)
swapped true true x y z h = absurd (h refl refl)
swapped true false x y z h = refl
swapped false b x y z h = refl

-- values of two names
pub prop_other : (name other : Name) (v w : Option Value) (o : Object) → same_name name other ≡ false → with_prop other w (with_prop name v o) ≡ with_prop name v (with_prop other w o)
prop_other name other v w o apart =
    same_object (with_prop other w (with_prop name v o)) (with_prop name v (with_prop other w o))
    (kind_kept other w (with_prop name v o) ∙ kind_kept name v o ∙ sym (kind_kept name v (with_prop other w o) ∙ kind_kept other w o))
    (place_kept other w (with_prop name v o) ∙ place_kept name v o ∙ sym (place_kept name v (with_prop other w o) ∙ place_kept other w o))
    (λ q. prop_of (with_prop name v o) other w q ∙ ap (cond (same_name q other) w) (prop_of o name v q)
    ∙ swapped (same_name q other) (same_name q name) w v (map.get o.props q) (λ a b. let x = same_name_true q other a in let y = same_name_true q name b in let z : same_name name other ≡ true = ap (λ t. same_name t other) (sym y) ∙ a in cc)
    ∙ ap (cond (same_name q name) v) (sym (prop_of o other w q)) ∙ sym (prop_of (with_prop other w o) name v q))

pub place_prop : (name : Name) (v : Option Value) (place : Place) (o : Object) → with_prop name v (with_place place o) ≡ with_place place (with_prop name v o)
place_prop name None place o = refl
place_prop name (Some v) place o = refl

both_ways : {A : Type 0} (b : Bool) (x : A) → cond b x x ≡ x
both_ways true x = refl
both_ways false x = refl

-- what isn't there stays away, unless it is created
pub none_stays : (q : ObjId) (changes : List Change) → list_any (creates_it q) changes ≡ false → over_at q changes None ≡ None
none_stays q [] h = refl
none_stays q (change ∷ changes) h = ap (over_at q changes) (one change (or_parts _ _ h).0) ∙ none_stays q changes (or_parts _ _ h).1
  where
    one : (change : Change) → creates_it q change ≡ false → lay_at q change None ≡ None
    one (Create id kind place) h = ap (cond (same_id id root) None) (ap (λ b. cond b (Some (new_object kind (Some place))) None) h) ∙ both_ways (same_id id root) None
    one (Set id name value) h = both_ways (same_id q id) None
    one (Move id place) h = ap (cond (same_id id root) None) (both_ways (same_id q id) None) ∙ both_ways (same_id id root) None
    one (Delete id) h = ap (cond (same_id id root) None) (both_ways (same_id q id) None) ∙ both_ways (same_id id root) None

-- what f makes of an object's field lasts, unless a change writes that field
module _ (q : ObjId) (f : Object → Object) (writes : Change → Bool)
    (step : (change : Change) → creates_it q change ≡ false → (x : Option Object) → lay_at q change (option_map f x) ≡ cond (writes change) (lay_at q change x) (option_map f (lay_at q change x)))
  where
    pub field_over : (changes : List Change) → list_any (creates_it q) changes ≡ false → (x : Option Object) → over_at q changes (option_map f x) ≡ cond (list_any writes changes) (over_at q changes x) (option_map f (over_at q changes x))
    field_over [] h x = refl
    field_over (change ∷ changes) h x = ap (over_at q changes) (step change (or_parts _ _ h).0 x) ∙ go (writes change) (field_over changes (or_parts _ _ h).1 (lay_at q change x))
      where
        go : (b : Bool) → over_at q changes (option_map f (lay_at q change x)) ≡ cond (list_any writes changes) (over_at q changes (lay_at q change x)) (option_map f (over_at q changes (lay_at q change x)))
            → over_at q changes (cond b (lay_at q change x) (option_map f (lay_at q change x))) ≡ cond (b || list_any writes changes) (over_at q changes (lay_at q change x)) (option_map f (over_at q changes (lay_at q change x)))
        go true ih = refl
        go false ih = ih

-- the step for a place
pub place_step : (q : ObjId) (place : Place) (change : Change) → creates_it q change ≡ false → (x : Option Object) → lay_at q change (option_map (with_place place) x) ≡ cond (moves_it q change) (lay_at q change x) (option_map (with_place place) (lay_at q change x))
place_step q place (Create id kind p) h x = here (same_id id root) (same_id q id) h
  where
    here : (a b : Bool) → b ≡ false → cond a (option_map (with_place place) x) (cond b (laid (Create id kind p) (option_map (with_place place) x)) (option_map (with_place place) x)) ≡ option_map (with_place place) (cond a x (cond b (laid (Create id kind p) x) x))
    here true b h = refl
    here false true h = absurd (cc)
    here false false h = refl
place_step q place (Set id name value) h x = here (same_id q id) x
  where
    here : (b : Bool) (x : Option Object) → cond b (option_map (with_prop name value) (option_map (with_place place) x)) (option_map (with_place place) x) ≡ option_map (with_place place) (cond b (option_map (with_prop name value) x) x)
    here true None = refl
    here true (Some o) = ap Some (place_prop name value place o)
    here false x = refl
place_step q place (Move id p) h x = here (same_id id root) (same_id q id) x
  where
    here : (a b : Bool) (x : Option Object) → cond a (option_map (with_place place) x) (cond b (option_map (with_place p) (option_map (with_place place) x)) (option_map (with_place place) x))
        ≡ cond (b && not a) (cond a x (cond b (option_map (with_place p) x) x)) (option_map (with_place place) (cond a x (cond b (option_map (with_place p) x) x)))
    here true true x = refl
    here true false x = refl
    here false true None = refl
    here false true (Some o) = refl
    here false false x = refl
place_step q place (Delete id) h x = here (same_id id root) (same_id q id)
  where
    here : (a b : Bool) → cond a (option_map (with_place place) x) (cond b None (option_map (with_place place) x)) ≡ option_map (with_place place) (cond a x (cond b None x))
    here true b = refl
    here false true = refl
    here false false = refl

-- the step for a property
pub prop_step : (q : ObjId) (name : Name) (value : Option Value) (change : Change) → creates_it q change ≡ false → (x : Option Object) → lay_at q change (option_map (with_prop name value) x) ≡ cond (sets_it q name change) (lay_at q change x) (option_map (with_prop name value) (lay_at q change x))
prop_step q name value (Create id kind p) h x = here (same_id id root) (same_id q id) h
  where
    here : (a b : Bool) → b ≡ false → cond a (option_map (with_prop name value) x) (cond b (laid (Create id kind p) (option_map (with_prop name value) x)) (option_map (with_prop name value) x)) ≡ option_map (with_prop name value) (cond a x (cond b (laid (Create id kind p) x) x))
    here true b h = refl
    here false true h = absurd (cc)
    here false false h = refl
prop_step q name value (Set id other w) h x = here (same_id q id) (same_name name other) refl x
  where
    here : (b c : Bool) → same_name name other ≡ c → (x : Option Object) → cond b (option_map (with_prop other w) (option_map (with_prop name value) x)) (option_map (with_prop name value) x)
        ≡ cond (b && c) (cond b (option_map (with_prop other w) x) x) (option_map (with_prop name value) (cond b (option_map (with_prop other w) x) x))
    here true true e None = refl
    here true false e None = refl
    here true true e (Some o) = ap Some (subst (λ n. with_prop other w (with_prop n value o) ≡ with_prop other w o) (sym (same_name_true name other e)) (prop_twice other w value o))
    here true false e (Some o) = ap Some (prop_other name other value w o e)
    here false c e x = refl
prop_step q name value (Move id p) h x = here (same_id id root) (same_id q id) x
  where
    here : (a b : Bool) (x : Option Object) → cond a (option_map (with_prop name value) x) (cond b (option_map (with_place p) (option_map (with_prop name value) x)) (option_map (with_prop name value) x)) ≡ option_map (with_prop name value) (cond a x (cond b (option_map (with_place p) x) x))
    here true b x = refl
    here false true None = refl
    here false true (Some o) = ap Some (sym (place_prop name value p o))
    here false false x = refl
prop_step q name value (Delete id) h x = here (same_id id root) (same_id q id)
  where
    here : (a b : Bool) → cond a (option_map (with_prop name value) x) (cond b None (option_map (with_prop name value) x)) ≡ option_map (with_prop name value) (cond a x (cond b None x))
    here true b = refl
    here false true = refl
    here false false = refl

-- what goes was deleted
pub gone_deleted : (q : ObjId) (changes : List Change) (o : Object) → over_at q changes (Some o) ≡ None → list_any (deletes_it q) changes ≡ true
gone_deleted q [] o h = absurd (cc)
gone_deleted q (change ∷ changes) o h = go (deletes_it q change) refl (λ p e. gone_deleted q changes p e)
  where
    still : (change : Change) → deletes_it q change ≡ false → (p : Object) × (lay_at q change (Some o) ≡ Some p)
    still (Create id kind place) h = (o, ap (cond (same_id id root) (Some o)) (both_ways (same_id q id) (Some o)) ∙ both_ways (same_id id root) (Some o))
    still (Set id name value) h = here (same_id q id)
      where
        here : (b : Bool) → (p : Object) × (cond b (Some (with_prop name value o)) (Some o) ≡ Some p)
        here true = (with_prop name value o, refl)
        here false = (o, refl)
    still (Move id place) h = here (same_id id root) (same_id q id)
      where
        here : (a b : Bool) → (p : Object) × (cond a (Some o) (cond b (Some (with_place place o)) (Some o)) ≡ Some p)
        here true b = (o, refl)
        here false true = (with_place place o, refl)
        here false false = (o, refl)
    still (Delete id) h = here (same_id id root) (same_id q id) h
      where
        here : (a b : Bool) → (b && not a) ≡ false → (p : Object) × (cond a (Some o) (cond b None (Some o)) ≡ Some p)
        here true b e = (o, refl)
        here false true e = absurd (cc)
        here false false e = (o, refl)

    go : (b : Bool) → deletes_it q change ≡ b → ((p : Object) → over_at q changes (Some p) ≡ None → list_any (deletes_it q) changes ≡ true) → (b || list_any (deletes_it q) changes) ≡ true
    go true e rec = refl
    go false e rec = let s = still change e in rec s.0 (ap (over_at q changes) (sym s.1) ∙ h)

-- an object that no change is about
pub untouched_step : (q : ObjId) (change : Change) (x : Option Object) → is_about q change ≡ false → lay_at q change x ≡ x
untouched_step q change x h = ap (cond (is_idle change) x) (ap (λ b. cond b (laid change x) x) h) ∙ both_ways (is_idle change) x

pub untouched : (q : ObjId) (changes : List Change) (x : Option Object) → list_any (is_about q) changes ≡ false → over_at q changes x ≡ x
untouched q [] x h = refl
untouched q (change ∷ changes) x h = ap (over_at q changes) (untouched_step q change x (or_parts _ _ h).0) ∙ untouched q changes x (or_parts _ _ h).1

-- and so none deletes or creates it
pub untouched_writes : (q : ObjId) (changes : List Change) → list_any (is_about q) changes ≡ false → (list_any (deletes_it q) changes ≡ false) × (list_any (creates_it q) changes ≡ false)
untouched_writes q [] h = (refl, refl)
untouched_writes q (change ∷ changes) h = go change (untouched_writes q changes (or_parts _ _ h).1) (or_parts _ _ h).0
  where
    go : (change : Change) → (list_any (deletes_it q) changes ≡ false) × (list_any (creates_it q) changes ≡ false) → is_about q change ≡ false → ((deletes_it q change || list_any (deletes_it q) changes) ≡ false) × ((creates_it q change || list_any (creates_it q) changes) ≡ false)
    go (Create id kind place) r h = (r.0, ap (λ b. b || list_any (creates_it q) changes) h ∙ r.1)
    go (Set id name value) r h = r
    go (Move id place) r h = r
    go (Delete id) r h = (ap (λ b. (b && not (same_id id root)) || list_any (deletes_it q) changes) h ∙ r.0, r.1)
