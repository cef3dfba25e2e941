-- Documents whose parts are what their types say, after each change.
use Rattle.std.proofs.Common.{◌≡◌, Bool, true, false, cond, List, Some, None, Option, All, T, refl, sym, subst, ◌∙◌, arith}
use Rattle.std.specs.Ordering.{is_eq}
use Rattle.std.specs.FinMap as map
use Rattle.std.specs.Cmp.{IsTotalOrder}
use Rattle.std.specs.declared.cmp.Ordering.{Ordering}
use Rattle.std.specs.declared.cmp.Ordering.TheVariants.{Less, Equal, Greater}
use Rattle.std.proofs.lemmas.Map.Lookups.{CmpEqualImpliesEq}
use Rattle.canvas_model.specs.declared.ObjId.{ObjId}
use Rattle.canvas_model.specs.declared.Kind.{Kind}
use Rattle.canvas_model.specs.declared.Kind.TheVariants.{Document}
use Rattle.canvas_model.specs.Ids.{id_cmp, root, IsId}
use Rattle.canvas_model.specs.Value.{Value}
use Rattle.canvas_model.specs.Document.{Doc, Name, Object, Place, name_cmp, new_object, blank, with_prop}
use Rattle.canvas_value.specs.Props.{IsProp}
use Rattle.canvas_doc.specs.Sorted.{is_other}
use Rattle.canvas_doc.specs.Known.{IsPlace, IsObject, HasObjects, IsRow}
use Rattle.canvas_doc.proofs.Maps.{exact_ids, ids_total, each_found}
use Rattle.canvas_doc.proofs.Kept.{get_removed}
use Rattle.canvas_doc.proofs.Standing.{some_is}
use Rattle.canvas_doc.proofs.Props.{names_total, exact_names}

module _ {K X : Type 0} {R : K → K → Ordering} (o : IsTotalOrder R) (exact : CmpEqualImpliesEq R) (P : K → X → Type 0) where
  -- whatever the map has at a key is so
  abbrev Each : map.FinMap R X → Type 0
  Each m = (q : K) (x : X) → map.get m q ≡ Some x → P q x

  pub each_empty : Each map.empty
  each_empty q x e = absurd (let none = map.get-empty R q in let f : None ≡ Some x = sym none ∙ e in cc)

  pub each_put : (m : map.FinMap R X) (k : K) (v : X) → Each m → P k v → Each (map.insert m k v)
  each_put m k v each here q x e =
      elim (R q k) as (λ r. R q k ≡ r → cond (is_eq r) (Some v) (map.get m q) ≡ Some x → P q x) [
        | Less ↦ λ c e. each q x e
        | Equal ↦ λ c e. subst (λ k. P k x) (sym (exact q k c)) (subst (P k) (some_is v x e) here)
        | Greater ↦ λ c e. each q x e
      ] refl (sym (map.get-insert o m k v q) ∙ e)

  pub each_kept : (p : K → Bool) (m n : map.FinMap R X) → ((q : K) → map.get n q ≡ cond (p q) (map.get m q) None) → Each m → Each n
  each_kept p m n got each q x e =
      elim (p q) as (λ b. cond b (map.get m q) None ≡ Some x → P q x) [
        | true ↦ λ e. each q x e
        | false ↦ λ e. absurd (let f : None ≡ Some x = e in cc)
      ] (sym (got q) ∙ e)

-- ---- objects
-- a new object at this place, or nowhere
pub new_known : (kind : Kind) (place : Option Place) → ((p : Place) → place ≡ Some p → IsPlace p) → IsObject (new_object kind place)
new_known kind place known = record { place = known; props = each_empty names_total exact_names (λ name value. IsProp (name, value)) }

-- an object of these properties
pub made_known : (kind : Kind) (place : Option Place) (es : List (Name × Value)) → T (map.is_sorted name_cmp es) → ((p : Place) → place ≡ Some p → IsPlace p) → All IsProp es
    → IsObject (record { kind = kind; place = place; props = map.from_sorted es })
made_known kind place es sorted there all = record { place = there; props = each_found exact_names IsProp es sorted all }

-- a property that has another value, or none any more
pub set_known : (name : Name) (value : Value) (o : Object) → IsProp (name, value) → IsObject o → IsObject (with_prop name (Some value) o)
set_known name value o prop known = record {
  place = known.place;
  props = each_put names_total exact_names (λ name value. IsProp (name, value)) o.props name value known.props prop;
}

pub cleared_known : (name : Name) (o : Object) → IsObject o → IsObject (with_prop name None o)
cleared_known name o known = record {
  place = known.place;
  props = each_kept names_total exact_names (λ name value. IsProp (name, value)) (is_other name_cmp name) o.props (map.remove o.props name) (get_removed names_total exact_names o.props name) known.props;
}

-- ---- documents
pub row_put : (d : Doc) (id : ObjId) (o : Object) → HasObjects d → IsId id → IsObject o → HasObjects (map.insert d id o)
row_put d id o has there known = each_put ids_total exact_ids (λ q o. IsId q × IsObject o) d id o has (there, known)

pub rows_kept : (p : ObjId → Bool) (d n : Doc) → ((q : ObjId) → map.get n q ≡ cond (p q) (map.get d q) None) → HasObjects d → HasObjects n
rows_kept = each_kept ids_total exact_ids (λ q o. IsId q × IsObject o)

pub rows_found : (es : List (ObjId × Object)) → T (map.is_sorted id_cmp es) → All IsRow es → HasObjects (map.from_sorted {R = id_cmp} es)
rows_found es sorted all = each_found exact_ids IsRow es sorted all

pub blank_known : HasObjects blank
blank_known = row_put map.empty root (new_object Document None) (each_empty ids_total exact_ids (λ q o. IsId q × IsObject o)) (omega arith, omega arith)
    (new_known Document None (λ p e. absurd (let f : None ≡ Some p = e in cc)))
