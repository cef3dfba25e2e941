-- Documents of which some objects were moved or removed.
use Rattle.std.proofs.Common.{◌≡◌, ◌≢◌, ℕ, Bool, true, false, cond, List, get_or, T, Some, None, refl, sym, ap, subst, ◌∙◌}
use Rattle.std.specs.Prelude.{not, is_some, slice_set}
use Rattle.std.specs.List.{Contains, list_any}
use Rattle.std.specs.Option.{option_map, option_and_then}
use Rattle.std.specs.FinMap as map
use Rattle.std.specs.FinMap.Entries.{where_key}
use Rattle.std.proofs.lemmas.Map.Views.{Contains-from_any}
use Rattle.canvas_model.specs.declared.ObjId.{ObjId}
use Rattle.canvas_model.specs.Ids.{id_cmp, root, same_id}
use Rattle.canvas_model.specs.Document.{Doc, Object, Place, place_of, without, IsDocument}
use Rattle.canvas_doc.specs.Sorted.{is_other, IsPairAt}
use Rattle.canvas_doc.proofs.Maps.{exact_ids, ids_total, get_is, put_inserts, differ, same_exact}
use Rattle.canvas_doc.proofs.Kept.{get_removed, kept_sorted, removed_is}
use Rattle.canvas_doc.proofs.Rooted.{dead_there}
use Rattle.canvas_doc.proofs.Searched.{set_puts}
use Rattle.canvas_doc.specs.Known.{HasObjects}
use Rattle.canvas_doc.proofs.Known.{rows_kept}

-- a document of which some objects but not the root were removed
document_kept : (p : ObjId → Bool) (d n : Doc) → ((q : ObjId) → map.get n q ≡ cond (p q) (map.get d q) None) → p root ≡ true → IsDocument d → IsDocument n
document_kept p d n got root_kept h =
    let at_root : map.get n root ≡ map.get d root = got root ∙ ap (λ b. cond b (map.get d root) None) root_kept in
    record {
      root_kind = ap (option_map (λ o. o.kind)) at_root ∙ h.root_kind;
      root_place = ap (option_and_then (λ o. o.place)) at_root ∙ h.root_place;
      others = λ q ne alive. elim (p q) as (λ b. p q ≡ b → (place : Place) × (place_of n q ≡ Some place)) [
        | true ↦ λ e.
            let same : map.get n q ≡ map.get d q = got q ∙ ap (λ b. cond b (map.get d q) None) e in
            let found = h.others q ne (sym (ap is_some same) ∙ alive) in
            (found.0, ap (option_and_then (λ o. o.place)) same ∙ found.1)
        | false ↦ λ e.
            let gone : map.get n q ≡ None = got q ∙ ap (λ b. cond b (map.get d q) None) e in
            let dead = dead_there n q gone in
            absurd (cc)
      ] refl;
    }

-- the pairs without that of one id
module _ (es fs : List (ObjId × Object)) (d : Doc) (id : ObjId) (sorted : T (map.is_sorted id_cmp es)) (view : map.from_sorted es ≡ d) (kept : fs ≡ where_key id_cmp (is_other id_cmp id) es) where
  pub removed_sorted : T (map.is_sorted id_cmp fs)
  removed_sorted = kept_sorted id_cmp (is_other id_cmp id) es fs sorted kept

  pub removed_doc : map.from_sorted fs ≡ map.remove d id
  removed_doc = removed_is ids_total exact_ids es fs d id sorted view kept

  pub removed_document : id ≢ root → IsDocument d → IsDocument (map.from_sorted {R = id_cmp} fs)
  removed_document ne h = subst IsDocument (sym removed_doc) (document_kept (is_other id_cmp id) d (map.remove d id) (get_removed ids_total exact_ids d id) (ap not (differ root id (λ e. ne (sym e)))) h)

  pub removed_known : HasObjects d → HasObjects (map.from_sorted {R = id_cmp} fs)
  removed_known h = subst HasObjects (sym removed_doc) (rows_kept (is_other id_cmp id) d (map.remove d id) (get_removed ids_total exact_ids d id) h)

-- the pairs without those of some ids
abbrev pub stays : List ObjId → ObjId → Bool
stays ids q = not (list_any (same_id q) ids)

module _ (es fs : List (ObjId × Object)) (d : Doc) (ids : List ObjId) (sorted : T (map.is_sorted id_cmp es)) (view : map.from_sorted es ≡ d) (kept : fs ≡ where_key id_cmp (stays ids) es) where
  get_without : (q : ObjId) → map.get (without d ids) q ≡ cond (stays ids q) (map.get d q) None
  get_without q = map.get-retain_keys d (stays ids) q (λ x tied. ap (stays ids) (sym (exact_ids q x tied)))

  root_stays : (Contains ids root → ⊥) → stays ids root ≡ true
  root_stays absent = elim (list_any (same_id root) ids) as (λ b. list_any (same_id root) ids ≡ b → not b ≡ true) [
    | true ↦ λ e. absurd (absent (Contains-from_any same_exact root ids e))
    | false ↦ λ e. refl
  ] refl

-- the pairs of which one has another object
module _ (f : Object → Object) (es fs : List (ObjId × Object)) (d : Doc) (id : ObjId) (i : ℕ) (e : ObjId × Object) (o : Object) (sorted : T (map.is_sorted id_cmp es)) (view : map.from_sorted es ≡ d) (same : fs ≡ es) (found : IsPairAt id_cmp fs id i) (is : e ≡ get_or es i e) (changed : o ≡ f e.1) where
  found_in : IsPairAt id_cmp es id i
  found_in = subst (λ es. IsPairAt id_cmp es id i) same found

  changed_pairs : slice_set es i (e.0, o) ≡ map.put id_cmp id (f e.1) es
  changed_pairs =
      ap (λ o. slice_set es i (e.0, o)) changed
      ∙ ap (λ (x : ObjId × Object). slice_set es i (x.0, f e.1)) is
      ∙ set_puts ids_total es sorted id i found_in.in_range found_in.tied e (f e.1)

  pub there : map.get d id ≡ Some e.1
  there = get_is es d id sorted view ∙ found_in.found e ∙ ap (λ (x : ObjId × Object). Some x.1) (sym is)

  pub inserted : map.from_sorted (slice_set es i (e.0, o)) ≡ map.insert d id (f e.1)
  inserted = put_inserts ids_total es _ d id (f e.1) sorted view changed_pairs
