-- Which lists of objects are a document.
use Rattle.std.proofs.Common.{◌≡◌, ◌≢◌, ◌↔◌, IsTrue, inl, inr, ℕ, zero, suc, ◌<◌, true, false, cond, List, [], ◌∷◌, length, get_or, Some, None, T, refl, sym, ap, ◌∙◌, arith}
use Rattle.std.specs.Prelude.{is_some}
use Rattle.std.specs.List.{list_all}
use Rattle.std.specs.Option.{option_map, option_and_then}
use Rattle.std.specs.Cmp.{nat_cmp_is}
use Rattle.std.specs.Ordering.{is_eq, nat_cmp, ordering_then}
use Rattle.std.specs.declared.cmp.Ordering.TheVariants.{Less, Equal, Greater}
use Rattle.std.specs.FinMap as map
use Rattle.std.proofs.lemmas.Cmp.{tied_itself}
use Rattle.std.proofs.lemmas.List.{get_or_default}
use Rattle.canvas_model.specs.declared.ObjId.{ObjId}
use Rattle.canvas_model.specs.declared.Kind.TheVariants.{Document}
use Rattle.canvas_model.specs.Ids.{id_cmp, root}
use Rattle.canvas_model.specs.Document.{Doc, Object, Place, place_of, IsDocument}
use Rattle.canvas_doc.specs.Whole.{AreDocument, AreRooted, IsRoot, is_placed}
use Rattle.canvas_doc.proofs.Maps.{exact_ids, ids_total, same_or_differ}
use Rattle.canvas_doc.proofs.Searched.{below_less, below_at, head_below, missing, pair_at}
use Rattle.canvas_value.proofs.Tests.{both_hold, both_true}
use Rattle.canvas_doc.proofs.Standing.{some_is}

-- every other id is greater than that of the root
root_least : (q : ObjId) → q ≢ root → id_cmp root q ≡ Less
root_least q ne =
    elim q.client as (λ n. q.client ≡ n → ordering_then (nat_cmp 0 n) (nat_cmp 0 q.counter) ≡ Less) [
      | zero ↦ λ client. elim q.counter as (λ n. q.counter ≡ n → ordering_then (nat_cmp 0 0) (nat_cmp 0 n) ≡ Less) [
        | zero ↦ λ counter. absurd (ne (λ t. record { client = client t; counter = counter t }))
        | suc n ↦ λ counter. sym (nat_cmp_is 0 (suc n) Less (omega arith))
      ] refl
      | suc n ↦ λ client. ap (λ r. ordering_then r (nat_cmp 0 q.counter)) (sym (nat_cmp_is 0 (suc n) Less (omega arith)))
    ] refl

-- what is found among objects that have places has one
found_placed : (q : ObjId) (o : Object) (es : List (ObjId × Object)) → IsTrue (list_all is_placed es) → map.find id_cmp q es ≡ Some o → IsTrue (is_some o.place)
found_placed q o [] all found = absurd (let f : None ≡ Some o = found in cc)
found_placed q o (e ∷ es) all found =
    let each = both_hold (is_placed e) (list_all is_placed es) all in
    elim (id_cmp q e.0) as (λ r. cond (is_eq r) (Some e.1) (map.find id_cmp q es) ≡ Some o → IsTrue (is_some o.place)) [
      | Less ↦ λ found. found_placed q o es each.1 found
      | Equal ↦ λ found. ap (λ (o : Object). is_some o.place) (sym (some_is e.1 o found)) ∙ each.0
      | Greater ↦ λ found. found_placed q o es each.1 found
    ] found

module _ (e : ObjId × Object) (es : List (ObjId × Object)) (sorted : T (map.is_sorted id_cmp (e ∷ es))) where
  abbrev whole : Doc
  whole = map.from_sorted (e ∷ es)

  get_whole : (q : ObjId) → map.get whole q ≡ map.find id_cmp q (e ∷ es)
  get_whole q = map.get-from_sorted id_cmp (e ∷ es) q sorted

  root_there : e.0 ≡ root → map.get whole root ≡ Some e.1
  root_there named = get_whole root ∙ ap (λ q. cond (is_eq (id_cmp root q)) (Some e.1) (map.find id_cmp root es)) named ∙ ap (λ r. cond (is_eq r) (Some e.1) (map.find id_cmp root es)) (tied_itself ids_total root)

  other_there : (q : ObjId) (o : Object) → q ≢ e.0 → map.find id_cmp q (e ∷ es) ≡ Some o → map.find id_cmp q es ≡ Some o
  other_there q o ne found =
      elim (id_cmp q e.0) as (λ r. id_cmp q e.0 ≡ r → cond (is_eq r) (Some e.1) (map.find id_cmp q es) ≡ Some o → map.find id_cmp q es ≡ Some o) [
        | Less ↦ λ is found. found
        | Equal ↦ λ is found. absurd (ne (exact_ids q e.0 is))
        | Greater ↦ λ is found. found
      ] refl found

  rooted_document : IsRoot e → IsTrue (list_all is_placed es) → IsDocument whole
  rooted_document (named, kind, place) placed = record {
    root_kind = ap (option_map (λ o. o.kind)) (root_there named) ∙ ap Some kind;
    root_place = ap (option_and_then (λ o. o.place)) (root_there named) ∙ place;
    others = λ q ne alive. elim (map.find id_cmp q (e ∷ es)) as (λ r. map.find id_cmp q (e ∷ es) ≡ r → (place : Place) × (place_of whole q ≡ Some place)) [
      | None ↦ λ found. absurd (let dead : false ≡ true = sym (ap is_some (get_whole q ∙ found)) ∙ alive in cc)
      | Some o ↦ λ found.
          let has = found_placed q o es placed (other_there q o (λ same. ne (same ∙ named)) found) in
          elim o.place as (λ p. o.place ≡ p → (place : Place) × (place_of whole q ≡ Some place)) [
            | None ↦ λ is. absurd (let none : false ≡ true = sym (ap is_some is) ∙ has in cc)
            | Some p ↦ λ is. (p, ap (option_and_then (λ o. o.place)) (get_whole q ∙ found) ∙ is)
          ] refl
    ] refl;
  }

  -- the first object of a document is the root
  first_named : IsDocument whole → e.0 ≡ root
  first_named document = elim (same_or_differ e.0 root) as (λ _. e.0 ≡ root) [
    | inl same ↦ same
    | inr differs ↦
        let first = root_least e.0 differs in
        let gone = get_whole root ∙ missing ids_total root (e ∷ es) (first, below_less ids_total root e.0 es first (head_below ids_total e es sorted)) in
        absurd (let none : None ≡ Some Document = sym (ap (option_map (λ (o : Object). o.kind)) gone) ∙ document.root_kind in cc)
  ]

  first_is_root : IsDocument whole → IsRoot e
  first_is_root document =
      let named = first_named document in
      let there = root_there named in
      (named, some_is _ _ (sym (ap (option_map (λ (o : Object). o.kind)) there) ∙ document.root_kind), sym (ap (option_and_then (λ (o : Object). o.place)) there) ∙ document.root_place)

  other_placed : IsDocument whole → (i : ℕ) (d : ObjId × Object) → i < length es → IsTrue (is_placed (get_or es i d))
  other_placed document i d lt =
      let x = get_or es i d in
      let after = below_at ids_total e.0 es (head_below ids_total e es sorted) i d lt in
      let differs : x.0 ≢ root = λ same. let tied : id_cmp e.0 x.0 ≡ Equal = ap (λ q. id_cmp q x.0) (first_named document ∙ sym same) ∙ tied_itself ids_total x.0 in let f : Less ≡ Equal = sym after ∙ tied in cc in
      let tied : (w : ObjId × Object) → id_cmp (get_or es i w).0 x.0 ≡ Equal = λ w. ap (λ (y : ObjId × Object). id_cmp y.0 x.0) (get_or_default es i w d lt) ∙ tied_itself ids_total x.0 in
      let there : map.get whole x.0 ≡ Some x.1 = get_whole x.0 ∙ pair_at ids_total (e ∷ es) sorted x.0 (suc i) (omega (arith, lt)) tied d in
      let stands = document.others x.0 differs (ap is_some there) in
      ap is_some (sym (ap (option_and_then (λ (o : Object). o.place)) there) ∙ stands.1)

each_placed : (es : List (ObjId × Object)) → ((i : ℕ) (d : ObjId × Object) → i < length es → IsTrue (is_placed (get_or es i d))) → IsTrue (list_all is_placed es)
each_placed [] each = refl
each_placed (e ∷ es) each = both_true (is_placed e) (list_all is_placed es) (each 0 e (omega arith)) (each_placed es (λ i d lt. each (suc i) d (omega (arith, lt))))

-- objects in order are a document exactly where the first is the root and the others have places
pub rooted_is_document : (es : List (ObjId × Object)) → T (map.is_sorted id_cmp es) → AreRooted es ↔ AreDocument es
rooted_is_document [] sorted = (
  λ none. absurd none,
  λ are. let empty = map.get-from_sorted id_cmp [] root sorted in let none : None ≡ Some Document = sym (ap (option_map (λ (o : Object). o.kind)) empty) ∙ are.document.root_kind in absurd (cc),
)
rooted_is_document (e ∷ es) sorted = (
  λ are. record { sorted = sorted; document = rooted_document e es sorted are.0 are.1 },
  λ are. (first_is_root e es sorted are.document, each_placed es (other_placed e es sorted are.document)),
)
