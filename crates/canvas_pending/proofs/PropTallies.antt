-- Tallies of properties, of which one has another count.
use Rattle.std.proofs.Common.{◌≡◌, ℕ, ◌+◌, ◌<◌, Bool, true, false, cond, List, Some, None, T, refl, sym, ap, subst, ◌∙◌, arith}
use Rattle.std.specs.Prelude.{◌&&◌, not}
use Rattle.std.specs.List.{insert, remove}
use Rattle.std.specs.FinMap as map
use Rattle.std.specs.FinMap.Entries.{find-put, find-where_key, is_sorted-put, is_sorted-where_key, where_key}
use Rattle.std.specs.Map.{count_at}
use Rattle.std.specs.Cmp.{IsTotalOrder}
use Rattle.std.specs.Ordering.{eq_by_cmp, is_eq, is_lt, ordering_then}
use Rattle.std.specs.declared.cmp.Ordering.{Ordering}
use Rattle.std.specs.declared.cmp.Ordering.TheVariants.{Less, Equal, Greater}
use Rattle.std.proofs.lemmas.Cmp.{on_total, then_total}
use Rattle.std.proofs.lemmas.Map.Lookups.{CmpEqualImpliesEq, exact_pairs}
use Rattle.canvas_blocks.specs.Blocks.{IsEdge}
use Rattle.canvas_model.specs.declared.ObjId.{ObjId}
use Rattle.canvas_model.specs.Ids.{id_cmp, same_id}
use Rattle.canvas_model.specs.Document.{Name, name_cmp}
use Rattle.canvas_model.specs.View.{same_name}
use Rattle.canvas_model.proofs.Ids.{id_itself, same_id_true}
use Rattle.canvas_model.proofs.Fields.{name_itself, same_name_true}
use Rattle.canvas_doc.specs.Sorted.{IsPairAt, is_other}
use Rattle.canvas_doc.proofs.Maps.{exact_ids, ids_total}
use Rattle.canvas_doc.proofs.Props.{exact_names, names_total}
use Rattle.canvas_doc.proofs.Searched.{taken_out}
use Rattle.canvas_pending.specs.Tallied.{HasNoZero, IsOneMore, is_prop, of_props, prop_cmp}
use Rattle.canvas_pending.proofs.Counts.{counted, lowered, no_zero, not_counted, raised}
use Rattle.canvas_pending.proofs.Edges.{gap_there, pair_there}

pub props_total : IsTotalOrder prop_cmp
props_total = then_total (on_total (λ k. k.0) ids_total) (on_total (λ k. k.1) names_total)

exact_props : CmpEqualImpliesEq prop_cmp
exact_props = exact_pairs id_cmp name_cmp exact_ids exact_names

module _ (id : ObjId) (name : Name) where
  prop_is : (k : ObjId × Name) → eq_by_cmp prop_cmp k (id, name) ≡ is_prop id name k
  prop_is k = by (id_cmp k.0 id) (name_cmp k.1 name)
    where
      by : (a b : Ordering) → is_eq (ordering_then a b) ≡ (is_eq a && is_eq b)
      by Less b = refl
      by Equal b = refl
      by Greater b = refl

  pub prop_it : is_prop id name (id, name) ≡ true
  prop_it = ap (λ b. b && same_name name name) (id_itself id) ∙ name_itself name

  prop_itself : (k : ObjId × Name) → is_prop id name k ≡ true → k ≡ (id, name)
  prop_itself k e = let a = same_id_true k.0 id (left (same_id k.0 id) (same_name k.1 name) e) in let b = same_name_true k.1 name (right (same_id k.0 id) (same_name k.1 name) e) in λ i. (a i, b i)
    where
      left : (a b : Bool) → (a && b) ≡ true → a ≡ true
      left true b e = refl
      left false b e = absurd (cc)

      right : (a b : Bool) → (a && b) ≡ true → b ≡ true
      right true b e = e
      right false b e = absurd (cc)

  module _ (es fs : List ((ObjId × Name) × ℕ)) (sorted : T (map.is_sorted prop_cmp es)) where
    -- the tallies with a count for the property
    module _ (n : ℕ) (is : fs ≡ map.put prop_cmp (id, name) n es) where
      pub put_sorted : T (map.is_sorted prop_cmp fs)
      put_sorted = subst (λ es. T (map.is_sorted prop_cmp es)) (sym is) (is_sorted-put prop_cmp props_total (id, name) n es sorted)

      pub put_count : (k : ObjId × Name) → of_props fs k ≡ cond (is_prop id name k) (Some n) (of_props es k)
      put_count k = ap (map.find prop_cmp k) is ∙ find-put prop_cmp props_total k (id, name) n es ∙ ap (λ b. cond b (Some n) (of_props es k)) (prop_is k)

    -- the tallies without the property
    module _ (is : fs ≡ where_key prop_cmp (is_other prop_cmp (id, name)) es) where
      pub less_sorted : T (map.is_sorted prop_cmp fs)
      less_sorted = subst (λ es. T (map.is_sorted prop_cmp es)) (sym is) (is_sorted-where_key prop_cmp (is_other prop_cmp (id, name)) es sorted)

      pub less_count : (k : ObjId × Name) → of_props fs k ≡ cond (is_prop id name k) None (of_props es k)
      less_count k =
          ap (map.find prop_cmp k) is
          ∙ find-where_key prop_cmp (is_other prop_cmp (id, name)) k (λ x tied. ap (is_other prop_cmp (id, name)) (sym (exact_props k x tied))) es
          ∙ turned (eq_by_cmp prop_cmp k (id, name)) ∙ ap (λ b. cond b None (of_props es k)) (prop_is k)
        where
          turned : (b : Bool) → cond (not b) (of_props es k) None ≡ cond b None (of_props es k)
          turned true = refl
          turned false = refl

    -- the tally of the property is taken out
    module _ (i : ℕ) (at : IsPairAt prop_cmp es (id, name) i) where
      pub without : fs ≡ remove es i → fs ≡ where_key prop_cmp (is_other prop_cmp (id, name)) es
      without is = taken_out props_total es es sorted refl (id, name) fs i at is

  module _ (es fs : List ((ObjId × Name) × ℕ)) (sorted : T (map.is_sorted prop_cmp es)) where
    -- with another count
    module _ (n : ℕ) (is : fs ≡ map.put prop_cmp (id, name) n es) where
      pub put_no_zero : (Some n ≡ Some 0 → ⊥) → HasNoZero (of_props es) → HasNoZero (of_props fs)
      put_no_zero = no_zero (is_prop id name) (of_props es) (of_props fs) (Some n) (put_count es fs sorted n is)

    -- without the tally
    module _ (is : fs ≡ where_key prop_cmp (is_other prop_cmp (id, name)) es) where
      pub less_no_zero : HasNoZero (of_props es) → HasNoZero (of_props fs)
      less_no_zero = no_zero (is_prop id name) (of_props es) (of_props fs) None (less_count es fs sorted is) (λ e. absurd (cc))

-- a property that had this count
module _ (id : ObjId) (name : Name) (es : List ((ObjId × Name) × ℕ)) (sorted : T (map.is_sorted prop_cmp es)) (count : ℕ) (told : count ≡ count_at (of_props es) (id, name)) where
  was_told : (k : ObjId × Name) → is_prop id name k ≡ true → count_at (of_props es) k ≡ count
  was_told k e = ap (count_at (of_props es)) (prop_itself id name k e) ∙ sym told

  -- it has another one, or none any more
  module _ (fs : List ((ObjId × Name) × ℕ)) where
    pub raised_to : (n : ℕ) → fs ≡ map.put prop_cmp (id, name) n es → n ≡ count + 1 → IsOneMore (is_prop id name) (of_props es) (of_props fs)
    raised_to n is = raised (is_prop id name) (of_props es) (of_props fs) (Some n) (put_count id name es fs sorted n is) count was_told

    pub lowered_to : (n : ℕ) → fs ≡ map.put prop_cmp (id, name) n es → count ≡ n + 1 → IsOneMore (is_prop id name) (of_props fs) (of_props es)
    lowered_to n is = lowered (is_prop id name) (of_props es) (of_props fs) (Some n) (put_count id name es fs sorted n is) count was_told

    pub lowered_out : fs ≡ where_key prop_cmp (is_other prop_cmp (id, name)) es → count ≡ 1 → IsOneMore (is_prop id name) (of_props fs) (of_props es)
    lowered_out is = lowered (is_prop id name) (of_props es) (of_props fs) None (less_count id name es fs sorted is) count was_told

  -- at the edge its tally is put in, or taken out
  module _ (i : ℕ) (edge : IsEdge (λ e b. b ≡ is_lt (prop_cmp e.0 (id, name))) es i) where
    pub put_in : HasNoZero (of_props es) → (copy : Name) → copy ≡ name → count ≡ 0 → insert es i ((id, copy), 1) ≡ map.put prop_cmp (id, name) 1 es
    put_in some copy same none =
        ap (λ (n : Name). insert es i ((id, n), 1)) same
        ∙ (gap_there props_total es sorted (id, name) i edge (not_counted (of_props es (id, name)) (some (id, name)) (sym told ∙ none))).put_there 1

    pub taken_out_there : count ≡ 1 → remove es i ≡ where_key prop_cmp (is_other prop_cmp (id, name)) es
    taken_out_there one =
        let some : 0 < count_at (of_props es) (id, name) = omega (arith, told, one) in
        without id name es (remove es i) sorted i (pair_there props_total es sorted (id, name) i edge (count_at (of_props es) (id, name)) (counted (of_props es (id, name)) some)) refl
