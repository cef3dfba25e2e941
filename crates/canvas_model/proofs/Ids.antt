-- The order of ids, and what maps by it answer.
use Rattle.std.proofs.Common.{◌≡◌, refl, ap, sym, ◌∙◌}
use Rattle.std.specs.Prelude.{is_some, Bool, true, false, cond, not, Option, Some, None, List}
use Rattle.std.specs.Ordering.{nat_cmp, is_eq, ordering_then}
use Rattle.std.specs.declared.cmp.Ordering.{Ordering}
use Rattle.std.specs.declared.cmp.Ordering.TheVariants.{Less, Equal, Greater}
use Rattle.std.specs.Cmp.{IsTotalOrder, nat_cmp_total, then_total, on_total, tied_itself}
use Rattle.std.specs.FinMap.{IsAntisymmetric, nat_cmp-IsAntisymmetric, get-insert, get-remove, get-retain_keys}
use Rattle.std.specs.FinMap as map
use Rattle.std.specs.List.{list_any}
use Rattle.canvas_model.specs.declared.ObjId.{ObjId}
use Rattle.canvas_model.specs.Ids.{id_cmp, same_id}
use Rattle.canvas_model.specs.Document.{Object, Doc, live, revise, without}

pub id_total : IsTotalOrder id_cmp
id_total = then_total (on_total (λ i. i.client) nat_cmp_total) (on_total (λ i. i.counter) nat_cmp_total)

pub id_apart : IsAntisymmetric id_cmp
id_apart x y e = go (nat_cmp x.client y.client) refl e
  where
    go : (r : Ordering) → nat_cmp x.client y.client ≡ r → ordering_then r (nat_cmp x.counter y.counter) ≡ Equal → x ≡ y
    go Less p q = absurd (cc)
    go Equal p q = let a = nat_cmp-IsAntisymmetric x.client y.client p in let b = nat_cmp-IsAntisymmetric x.counter y.counter q in λ i. record { client = a i; counter = b i }
    go Greater p q = absurd (cc)

pub equal_of : (r : Ordering) → is_eq r ≡ true → r ≡ Equal
equal_of Less e = absurd (cc)
equal_of Equal e = refl
equal_of Greater e = absurd (cc)

pub same_id_true : (x y : ObjId) → same_id x y ≡ true → x ≡ y
same_id_true x y e = id_apart x y (equal_of (id_cmp x y) e)

pub id_itself : (x : ObjId) → same_id x x ≡ true
id_itself x = ap is_eq (tied_itself id_total x)

pub get-revise : (d : Doc) (id : ObjId) (x : Option Object) (q : ObjId) → map.get (revise d id x) q ≡ cond (same_id q id) x (map.get d q)
get-revise d id None q = get-remove id_total d id q
get-revise d id (Some o) q = get-insert id_total d id o q

pub get-without : (d : Doc) (ids : List ObjId) (q : ObjId) → map.get (without d ids) q ≡ cond (list_any (same_id q) ids) None (map.get d q)
get-without d ids q =
    get-retain_keys d (λ q. not (list_any (same_id q) ids)) q (λ x tied. ap (λ y. not (list_any (same_id y) ids)) (sym (id_apart q x tied)))
    ∙ turned (list_any (same_id q) ids)
  where
    turned : (b : Bool) → cond (not b) (map.get d q) None ≡ cond b None (map.get d q)
    turned true = refl
    turned false = refl

pub id_dec : (x y : ObjId) → Dec (x ≡ y)
id_dec x y = go (same_id x y) refl
  where
    go : (b : Bool) → same_id x y ≡ b → Dec (x ≡ y)
    go true e = yes (same_id_true x y e)
    go false e = no (λ p. let a : same_id x y ≡ true = ap (λ z. same_id x z) (sym p) ∙ id_itself x in cc)

-- nothing stands where nothing is live
pub dead_none : (d : Doc) (id : ObjId) → live d id ≡ false → map.get d id ≡ None
dead_none d id h = go (map.get d id) h
  where
    go : (x : Option Object) → is_some x ≡ false → x ≡ None
    go None e = refl
    go (Some o) e = absurd (cc)
