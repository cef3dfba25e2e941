-- A waiting edit that a later one of the same field replaces.
use Rattle.std.proofs.Common.{◌≡◌, List, [], ◌∷◌, ◌++◌, length, length-append, arith, refl, ap, sym, ◌∙◌, subst}
use Rattle.std.proofs.Common.{ℕ}
use Rattle.std.specs.Prelude.{Bool, true, false, cond, not, ◌||◌, ◌&&◌, Option, Some, None}
use Rattle.std.specs.Option.{option_map}
use Rattle.std.specs.List.{list_any}
use Rattle.std.specs.FinMap as map
use Rattle.canvas_model.specs.Value.{Value}
use Rattle.canvas_model.specs.declared.ObjId.{ObjId}
use Rattle.canvas_model.specs.Ids.{root, same_id}
use Rattle.canvas_model.specs.Document.{Doc, Name, Object, Place, with_place, with_prop}
use Rattle.canvas_model.specs.Change.{Change, Create, Set, Move, Delete}
use Rattle.canvas_model.specs.Overlay.{lay, over}
use Rattle.canvas_model.specs.View.{creates_it, moves_it, same_name, sets_it}
use Rattle.canvas_model.proofs.Ids.{same_id_true}
use Rattle.canvas_model.proofs.Overlay.{lay_at, over_at, get-lay, get-over, over-append}
use Rattle.canvas_model.proofs.Fields.{field_over, place_step, prop_step, prop_twice, same_name_true}
use Rattle.canvas_model.specs.Standing.{AreOwn, Stands}
use Rattle.canvas_model.proofs.Owned.{any-append}
use Rattle.canvas_steps.specs.Fold.{EachFoldCreatesTheSame, EachFoldIsOneLess, EachFoldKeepsOwn, EachFoldShowsTheSame, EachFoldStands, MayFold, is_set}
use Rattle.canvas_steps.proofs.Back.{same_doc}

-- g overwrites what f writes
module _ (q : ObjId) (f g : Object → Object) (hides : (o : Object) → g (f o) ≡ g o) (writes : Change → Bool)
    (step_f : (change : Change) → creates_it q change ≡ false → (x : Option Object) → lay_at q change (option_map f x) ≡ cond (writes change) (lay_at q change x) (option_map f (lay_at q change x)))
    (step_g : (change : Change) → creates_it q change ≡ false → (x : Option Object) → lay_at q change (option_map g x) ≡ cond (writes change) (lay_at q change x) (option_map g (lay_at q change x)))
    (between : List Change) (none : list_any (creates_it q) between ≡ false) (apart : list_any writes between ≡ false)
  where
    hidden : (x : Option Object) → option_map g (option_map f x) ≡ option_map g x
    hidden None = refl
    hidden (Some o) = ap Some (hides o)

    passed : (h : Object → Object) (x : Option Object) → over_at q between (option_map h x) ≡ cond (list_any writes between) (over_at q between x) (option_map h (over_at q between x)) → over_at q between (option_map h x) ≡ option_map h (over_at q between x)
    passed h x e = e ∙ ap (λ b. cond b (over_at q between x) (option_map h (over_at q between x))) apart

    pub folded : (x : Option Object) → over_at q between (option_map g x) ≡ option_map g (over_at q between (option_map f x))
    folded x =
        passed g x (field_over q g writes step_g between none x)
        ∙ sym (hidden (over_at q between x))
        ∙ ap (option_map g) (sym (passed f x (field_over q f writes step_f between none x)))

set_folds : (id : ObjId) (name : Name) (v w : Option Value) (between : List Change) → list_any (creates_it id) between ≡ false → list_any (sets_it id name) between ≡ false
    → (q : ObjId) (x : Option Object) → over_at q between (lay_at q (Set id name w) x) ≡ lay_at q (Set id name w) (over_at q between (lay_at q (Set id name v) x))
set_folds id name v w between none apart q x = go (same_id q id) refl
  where
    go : (b : Bool) → same_id q id ≡ b → over_at q between (cond b (option_map (with_prop name w) x) x) ≡ cond b (option_map (with_prop name w) (over_at q between (cond b (option_map (with_prop name v) x) x))) (over_at q between (cond b (option_map (with_prop name v) x) x))
    go true e =
        subst (λ r. over_at r between (option_map (with_prop name w) x) ≡ option_map (with_prop name w) (over_at r between (option_map (with_prop name v) x))) (sym (same_id_true q id e))
        (folded id (with_prop name v) (with_prop name w) (prop_twice name w v) (sets_it id name) (prop_step id name v) (prop_step id name w) between none apart x)
    go false e = refl

pub move_folds : (id : ObjId) (p r : Place) (between : List Change) → list_any (creates_it id) between ≡ false → list_any (moves_it id) between ≡ false
    → (q : ObjId) (x : Option Object) → over_at q between (lay_at q (Move id r) x) ≡ lay_at q (Move id r) (over_at q between (lay_at q (Move id p) x))
move_folds id p r between none apart q x = go (same_id id root) (same_id q id) refl
  where
    go : (a b : Bool) → same_id q id ≡ b → over_at q between (cond a x (cond b (option_map (with_place r) x) x))
        ≡ cond a (over_at q between (cond a x (cond b (option_map (with_place p) x) x))) (cond b (option_map (with_place r) (over_at q between (cond a x (cond b (option_map (with_place p) x) x)))) (over_at q between (cond a x (cond b (option_map (with_place p) x) x))))
    go true b e = refl
    go false true e =
        subst (λ s. over_at s between (option_map (with_place r) x) ≡ option_map (with_place r) (over_at s between (option_map (with_place p) x))) (sym (same_id_true q id e))
        (folded id (with_place p) (with_place r) (λ o. refl) (moves_it id) (place_step id p) (place_step id r) between none apart x)
    go false false e = refl

-- changes of properties create no object and move none
no_creation : (id : ObjId) (between : List Change) → list_any (λ change. not (is_set change)) between ≡ false → list_any (creates_it id) between ≡ false
no_creation id [] sets = refl
no_creation id (Set other name value ∷ between) sets = no_creation id between sets
no_creation id (Create other kind place ∷ between) sets = absurd (cc)
no_creation id (Move other place ∷ between) sets = absurd (cc)
no_creation id (Delete other ∷ between) sets = absurd (cc)

no_move : (id : ObjId) (between : List Change) → list_any (λ change. not (is_set change)) between ≡ false → list_any (moves_it id) between ≡ false
no_move id [] sets = refl
no_move id (Set other name value ∷ between) sets = no_move id between sets
no_move id (Create other kind place ∷ between) sets = absurd (cc)
no_move id (Move other place ∷ between) sets = absurd (cc)
no_move id (Delete other ∷ between) sets = absurd (cc)

-- none passes either test
neither : (f g : Change → Bool) (xs : List Change) → list_any (λ x. f x || g x) xs ≡ false → (list_any f xs ≡ false) × (list_any g xs ≡ false)
neither f g [] none = (refl, refl)
neither f g (x ∷ xs) none = go (f x) (g x) (list_any (λ x. f x || g x) xs) none (neither f g xs)
  where
    go : (a b c : Bool) → ((a || b) || c) ≡ false → (c ≡ false → (list_any f xs ≡ false) × (list_any g xs ≡ false)) → ((a || list_any f xs) ≡ false) × ((b || list_any g xs) ≡ false)
    go true b c e rest = absurd (cc)
    go false true c e rest = absurd (cc)
    go false false c e rest = rest e

both : (a b : Bool) → (a && b) ≡ true → (a ≡ true) × (b ≡ true)
both true b e = (refl, e)
both false b e = absurd (cc)

folds_at : (early late : Change) (between : List Change) → MayFold early between late → (q : ObjId) (x : Option Object) → over_at q between (lay_at q late x) ≡ lay_at q late (over_at q between (lay_at q early x))
folds_at (Set other second v) (Set id name w) between (same, none) q x =
    let fields = both (same_id id other) (same_name name second) same in
    let apart = neither (creates_it id) (sets_it id name) between none in
    subst (λ i. over_at q between (lay_at q (Set id name w) x) ≡ lay_at q (Set id name w) (over_at q between (lay_at q (Set i second v) x))) (same_id_true id other fields.0)
    (subst (λ n. over_at q between (lay_at q (Set id name w) x) ≡ lay_at q (Set id name w) (over_at q between (lay_at q (Set id n v) x))) (same_name_true name second fields.1)
    (set_folds id name v w between apart.0 apart.1 q x))
folds_at (Move other p) (Move id r) between (same, none) q x =
    let fields = both (same_id id other) (not (same_id other root)) same in
    subst (λ i. over_at q between (lay_at q (Move id r) x) ≡ lay_at q (Move id r) (over_at q between (lay_at q (Move i p) x))) (same_id_true id other fields.0)
    (move_folds id p r between (no_creation id between none) (no_move id between none) q x)
folds_at early (Create id kind place) between may q x = absurd (let e = may.0 in cc)
folds_at early (Delete id) between may q x = absurd (let e = may.0 in cc)
folds_at (Create other kind place) (Set id name v) between may q x = absurd (let e = may.0 in cc)
folds_at (Move other place) (Set id name v) between may q x = absurd (let e = may.0 in cc)
folds_at (Delete other) (Set id name v) between may q x = absurd (let e = may.0 in cc)
folds_at (Create other kind place) (Move id p) between may q x = absurd (let e = may.0 in cc)
folds_at (Set other name w) (Move id p) between may q x = absurd (let e = may.0 in cc)
folds_at (Delete other) (Move id p) between may q x = absurd (let e = may.0 in cc)

module _ (between : List Change) (early late : Change) (may : MayFold early between late) where
  shows_the_same : (d : Doc) (before : List Change) → over d (before ++ late ∷ between) ≡ over d (before ++ early ∷ between ++ late ∷ [])
  shows_the_same d [] =
      same_doc (over (lay d late) between) (over (lay d early) (between ++ late ∷ []))
      (λ q. get-over (lay d late) between q ∙ ap (over_at q between) (get-lay d late q) ∙ folds_at early late between may q (map.get d q)
      ∙ sym (ap (λ e. map.get e q) (over-append (lay d early) between late) ∙ get-lay (over (lay d early) between) late q ∙ ap (lay_at q late) (get-over (lay d early) between q ∙ ap (over_at q between) (get-lay d early q))))
  shows_the_same d (change ∷ before) = shows_the_same (lay d change) before

pub each_fold_shows_the_same : EachFoldShowsTheSame
each_fold_shows_the_same d at old new (before, between, early, late, there, may, was, is) =
    ap (over d) is ∙ shows_the_same between early late may d before ∙ sym (ap (over d) was)

-- neither of the two creates an object
creates_none : (early late : Change) (between : List Change) → MayFold early between late → (q : ObjId) → (creates_it q early ≡ false) × (creates_it q late ≡ false)
creates_none (Set id name v) (Set other second w) between may q = (refl, refl)
creates_none (Move id p) (Move other r) between may q = (refl, refl)
creates_none early (Create id kind place) between may q = absurd (let e = may.0 in cc)
creates_none early (Delete id) between may q = absurd (let e = may.0 in cc)
creates_none (Create other kind place) (Set id name v) between may q = absurd (let e = may.0 in cc)
creates_none (Move other place) (Set id name v) between may q = absurd (let e = may.0 in cc)
creates_none (Delete other) (Set id name v) between may q = absurd (let e = may.0 in cc)
creates_none (Create other kind place) (Move id p) between may q = absurd (let e = may.0 in cc)
creates_none (Set other name w) (Move id p) between may q = absurd (let e = may.0 in cc)
creates_none (Delete other) (Move id p) between may q = absurd (let e = may.0 in cc)

or_false : (b : Bool) → (b || false) ≡ b
or_false true = refl
or_false false = refl

-- both lists create the same objects
creates_same : (before between : List Change) (early late : Change) → MayFold early between late → (q : ObjId)
    → list_any (creates_it q) (before ++ late ∷ between) ≡ list_any (creates_it q) (before ++ early ∷ between ++ late ∷ [])
creates_same [] between early late may q =
    let none = creates_none early late between may q in
    ap (λ b. b || list_any (creates_it q) between) none.1
    ∙ sym (or_false (list_any (creates_it q) between))
    ∙ ap (λ b. list_any (creates_it q) between || b) (sym none.1)
    ∙ sym (any-append (creates_it q) between late)
    ∙ ap (λ b. b || list_any (creates_it q) (between ++ late ∷ [])) (sym none.0)
creates_same (change ∷ before) between early late may q = ap (λ b. creates_it q change || b) (creates_same before between early late may q)

-- without its last change, which creates nothing, a list creates its own objects still
own_but_last : (c counter : ℕ) (xs : List Change) (late : Change) → ((q : ObjId) → creates_it q late ≡ false) → AreOwn c counter (xs ++ late ∷ []) → AreOwn c counter xs
own_but_last c counter [] late none own = tt
own_but_last c counter (Create id kind place ∷ xs) late none own =
    (own.0, own.1, sym (or_false (list_any (creates_it id) xs)) ∙ ap (λ b. list_any (creates_it id) xs || b) (sym (none id)) ∙ sym (any-append (creates_it id) xs late) ∙ own.2, own_but_last c counter xs late none own.3)
own_but_last c counter (Set id name value ∷ xs) late none own = own_but_last c counter xs late none own
own_but_last c counter (Move id place ∷ xs) late none own = own_but_last c counter xs late none own
own_but_last c counter (Delete id ∷ xs) late none own = own_but_last c counter xs late none own

-- so it does after another first change that creates nothing
own_head : (c counter : ℕ) (early late : Change) (between xs : List Change) → MayFold early between late → (AreOwn c counter (early ∷ xs) → AreOwn c counter xs) × (AreOwn c counter xs → AreOwn c counter (late ∷ xs))
own_head c counter (Set id name v) (Set other second w) between xs may = (λ own. own, λ own. own)
own_head c counter (Move id p) (Move other r) between xs may = (λ own. own, λ own. own)
own_head c counter early (Create id kind place) between xs may = absurd (let e = may.0 in cc)
own_head c counter early (Delete id) between xs may = absurd (let e = may.0 in cc)
own_head c counter (Create other kind place) (Set id name v) between xs may = absurd (let e = may.0 in cc)
own_head c counter (Move other place) (Set id name v) between xs may = absurd (let e = may.0 in cc)
own_head c counter (Delete other) (Set id name v) between xs may = absurd (let e = may.0 in cc)
own_head c counter (Create other kind place) (Move id p) between xs may = absurd (let e = may.0 in cc)
own_head c counter (Set other name w) (Move id p) between xs may = absurd (let e = may.0 in cc)
own_head c counter (Delete other) (Move id p) between xs may = absurd (let e = may.0 in cc)

own_folded : (c counter : ℕ) (before between : List Change) (early late : Change) → MayFold early between late → AreOwn c counter (before ++ early ∷ between ++ late ∷ []) → AreOwn c counter (before ++ late ∷ between)
own_folded c counter [] between early late may own =
    (own_head c counter early late between between may).1
    (own_but_last c counter between late (λ q. (creates_none early late between may q).1) ((own_head c counter early late between (between ++ late ∷ []) may).0 own))
own_folded c counter (Create id kind place ∷ before) between early late may own = (own.0, own.1, creates_same before between early late may id ∙ own.2, own_folded c counter before between early late may own.3)
own_folded c counter (Set id name value ∷ before) between early late may own = own_folded c counter before between early late may own
own_folded c counter (Move id place ∷ before) between early late may own = own_folded c counter before between early late may own
own_folded c counter (Delete id ∷ before) between early late may own = own_folded c counter before between early late may own

pub each_fold_creates_the_same : EachFoldCreatesTheSame
each_fold_creates_the_same q at old new (before, between, early, late, there, may, was, is) =
    ap (list_any (creates_it q)) is ∙ creates_same before between early late may q ∙ sym (ap (list_any (creates_it q)) was)

pub each_fold_is_one_less : EachFoldIsOneLess
each_fold_is_one_less at old new (before, between, early, late, there, may, was, is) =
    let a = ap length was in
    let b = ap length is in
    let c = length-append (before ++ early ∷ between) (late ∷ []) in
    let d = length-append before (early ∷ between) in
    let e = length-append before (late ∷ between) in
    omega (arith, a, b, c, d, e)

pub each_fold_keeps_own : EachFoldKeepsOwn
each_fold_keeps_own c counter at old new (before, between, early, late, there, may, was, is) own =
    subst (AreOwn c counter) (sym is) (own_folded c counter before between early late may (subst (AreOwn c counter) was own))

pub each_fold_stands : EachFoldStands
each_fold_stands d at old new (folds, changed) stands =
    subst (λ client. Stands client d) (sym changed) (record {
      shown = stands.shown ∙ sym (each_fold_shows_the_same d at old.waiting new.waiting folds);
      fresh = λ q h. stands.fresh q (sym (each_fold_creates_the_same q at old.waiting new.waiting folds) ∙ h);
      counters = stands.counters;
    })
