-- A change laid over a document.
use Rattle.std.proofs.Common.{◌≡◌, Bool, true, false, cond, Option, Some, None, Decides, nat_eq, ◌&&◌, refl, ap, sym, ◌∙◌}
use Rattle.std.specs.Prelude.{is_some}
use Rattle.std.specs.FinMap.{same_map}
use Rattle.std.specs.FinMap as map
use Rattle.std.proofs.lemmas.Bool.Decides.{Decides-and, Decides-eqb, Decides-like}
use Rattle.canvas_model.specs.declared.ObjId.{ObjId}
use Rattle.canvas_model.specs.declared.Kind.{Kind}
use Rattle.canvas_model.specs.Ids.{root, same_id}
use Rattle.canvas_model.specs.Document.{Doc, Object, Place, live, revise, new_object}
use Rattle.canvas_model.specs.Change.{Change, Create}
use Rattle.canvas_model.specs.Overlay.{lay, laid}
use Rattle.canvas_model.proofs.Ids.{id_total, id_apart, id_itself, same_id_true, get-revise, dead_none}

-- what `==` says of ids
pub same_ids : (a b : ObjId) → Decides (nat_eq a.client b.client && nat_eq a.counter b.counter) (a ≡ b)
same_ids a b =
    Decides-like _ (λ (p, q) i. record { client = p i; counter = q i }) (λ e. (ap (λ (x : ObjId). x.client) e, ap (λ (x : ObjId). x.counter) e))
    (Decides-and _ _ (Decides-eqb a.client b.client) (Decides-eqb a.counter b.counter))

pub ids_equal : (x y : ObjId) → true ≡ (nat_eq x.client y.client && nat_eq x.counter y.counter) → x ≡ y
ids_equal x y e = (same_ids x y).0 (sym e)

pub ids_same : (x y : ObjId) → true ≡ (nat_eq x.client y.client && nat_eq x.counter y.counter) → same_id x y ≡ true
ids_same x y e = ap (same_id x) (sym (ids_equal x y e)) ∙ id_itself x

pub ids_differ : (x y : ObjId) → false ≡ (nat_eq x.client y.client && nat_eq x.counter y.counter) → same_id x y ≡ false
ids_differ x y e = go (same_id x y) refl
  where
    go : (b : Bool) → same_id x y ≡ b → same_id x y ≡ false
    go true s = let t = (same_ids x y).1 (same_id_true x y s) in let f : false ≡ true = e ∙ t in absurd (cc)
    go false s = s

-- to write what is there changes nothing
pub rewritten : (d : Doc) (id : ObjId) → d ≡ revise d id (map.get d id)
rewritten d id = same_map id_total id_apart d (revise d id (map.get d id)) (λ q. there q (same_id q id) refl ∙ sym (get-revise d id (map.get d id) q))
  where
    there : (q : ObjId) (b : Bool) → same_id q id ≡ b → map.get d q ≡ cond (same_id q id) (map.get d id) (map.get d q)
    there q true e = ap (map.get d) (same_id_true q id e) ∙ ap (λ b. cond b (map.get d id) (map.get d q)) (sym e)
    there q false e = ap (λ b. cond b (map.get d id) (map.get d q)) (sym e)

-- the creation of what is there changes nothing
pub laid_there : (d : Doc) (change : Change) (id : ObjId) (kind : Kind) (place : Place) → change ≡ Create id kind place → live d id ≡ true → d ≡ lay d change
laid_there d change id kind place is there =
    by (same_id id root) ∙ sym (ap (lay d) is)
  where
    same : (x : Option Object) → is_some x ≡ true → x ≡ laid (Create id kind place) x
    same None h = absurd (cc)
    same (Some o) h = refl

    by : (b : Bool) → d ≡ cond b d (revise d id (laid (Create id kind place) (map.get d id)))
    by true = refl
    by false = rewritten d id ∙ ap (revise d id) (same (map.get d id) there)

-- the creation of the root changes nothing
pub laid_root : (d : Doc) (change : Change) (id : ObjId) (kind : Kind) (place : Place) → change ≡ Create id kind place → same_id id root ≡ true → d ≡ lay d change
laid_root d change id kind place is idle = sym (ap (lay d) is ∙ ap (λ b. cond b d (revise d id (laid (Create id kind place) (map.get d id)))) idle)

-- the creation of what isn't there
pub laid_new : (d n : Doc) (change : Change) (id : ObjId) (kind : Kind) (place : Place) → change ≡ Create id kind place → live d id ≡ false → same_id id root ≡ false → n ≡ revise d id (Some (new_object kind (Some place))) → n ≡ lay d change
laid_new d n change id kind place is dead apart now =
    now ∙ sym (ap (lay d) is ∙ ap (λ b. cond b d (revise d id (laid (Create id kind place) (map.get d id)))) apart ∙ ap (λ x. revise d id (laid (Create id kind place) x)) (dead_none d id dead))
