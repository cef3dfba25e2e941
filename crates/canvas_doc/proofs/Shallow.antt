-- Documents whose values aren't too deep, told from their rows.
use Rattle.std.proofs.Common.{◌≡◌, ℕ, ◌≤◌, nat_le, get_or, All, true, Some, ap, sym, ◌∙◌, arith}
use Rattle.std.specs.List.{list_all}
use Rattle.std.specs.Cmp.{IsTotalOrder}
use Rattle.std.specs.FinMap as map
use Rattle.std.specs.declared.cmp.Ordering.{Ordering}
use Rattle.std.specs.declared.cmp.Ordering.TheVariants.{Equal}
use Rattle.std.proofs.lemmas.Cmp.{tied_itself}
use Rattle.std.proofs.lemmas.List.{get_or_default}
use Rattle.std.proofs.lemmas.List.Sums.{AllPass-from_list_all, list_all-from_AllPass}
use Rattle.canvas_model.specs.Ids.{id_cmp}
use Rattle.canvas_model.specs.Value.{depth}
use Rattle.canvas_model.specs.Document.{Doc, Object}
use Rattle.canvas_model.specs.Storable.{IsShallowDoc, IsShallowObject}
use Rattle.canvas_model.proofs.Tests.{le_true}
use Rattle.canvas_doc.proofs.Maps.{exact_ids, ids_total, found_at}
use Rattle.canvas_doc.proofs.Searched.{pair_at}
use Rattle.canvas_doc.proofs.Props.{names_total, exact_names}
use Rattle.canvas_doc.specs.Shallow.{is_shallow_prop, is_shallow_row}

-- what holds of whatever a map has at a key holds of each of its pairs
pub each_entry : {K X : Type 0} {R : K → K → Ordering} → IsTotalOrder R → (m : map.FinMap R X) (P : K × X → Type 0) → ((k : K) (x : X) → map.get m k ≡ Some x → P (k, x)) → All P (map.entries m)
each_entry {K} {X} {R} o m P h i d lt =
    let es = map.entries m in
    let e = get_or es i d in
    let tied : (w : K × X) → R (get_or es i w).0 e.0 ≡ Equal = λ w. ap (λ (f : K × X). R f.0 e.0) (get_or_default es i w d lt) ∙ tied_itself o e.0 in
    h e.0 e.1 (map.get-entries m e.0 ∙ pair_at o es (map.entries_sorted m) e.0 i lt tied d)

pub true_le : (m n : ℕ) → m ≤ n → nat_le m n ≡ true
true_le m n e = grind (arith, e)

pub same_doc : (d : Doc) → map.from_sorted (map.entries d) ≡ d
same_doc d = map.same_entries_map _ _ (map.entries-from_sorted id_cmp (map.entries d) (map.entries_sorted d))

pub object_told : (o : Object) → list_all is_shallow_prop (map.entries o.props) ≡ true → IsShallowObject o
object_told o all name value found =
    let pair = found_at exact_names (map.entries o.props) name value (sym (map.get-entries o.props name) ∙ found) in
    let here = AllPass-from_list_all is_shallow_prop (map.entries o.props) all pair.0 (name, value) pair.1 in
    le_true (depth value) 16 (sym (ap is_shallow_prop (pair.2 (name, value))) ∙ here)

object_tells : (o : Object) → IsShallowObject o → list_all is_shallow_prop (map.entries o.props) ≡ true
object_tells o h =
    list_all-from_AllPass is_shallow_prop (map.entries o.props)
    (each_entry names_total o.props (λ e. is_shallow_prop e ≡ true) (λ name value found. true_le (depth value) 16 (h name value found)))

pub doc_told : (d : Doc) → list_all is_shallow_row (map.entries d) ≡ true → IsShallowDoc d
doc_told d all q o found =
    let pair = found_at exact_ids (map.entries d) q o (sym (map.get-entries d q) ∙ found) in
    let here = AllPass-from_list_all is_shallow_row (map.entries d) all pair.0 (q, o) pair.1 in
    object_told o (sym (ap is_shallow_row (pair.2 (q, o))) ∙ here)

pub doc_tells : (d : Doc) → IsShallowDoc d → list_all is_shallow_row (map.entries d) ≡ true
doc_tells d h =
    list_all-from_AllPass is_shallow_row (map.entries d)
    (each_entry ids_total d (λ e. is_shallow_row e ≡ true) (λ q o found. object_tells o (h q o found)))
