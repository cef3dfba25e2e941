-- What is asked of each live object, and soundness.
use Rattle.std.proofs.Common.{◌≡◌, ◌↔◌, inl, inr, ℕ, zero, suc, ◌+◌, ◌-◌, ◌≤◌, Bool, true, false, cond, IsTrue, List, [], ◌∷◌, length, get_or, Option, Some, None, refl, sym, ap, subst, ◌∙◌, arith}
use Rattle.std.specs.Prelude.{is_some, nat_eq, ◌||◌, map}
use Rattle.std.proofs.lemmas.Bool.Decides.{nat_tests}
use Rattle.std.specs.Option.{option_map, option_and_then}
use Rattle.std.specs.List.{All, Contains, IsDistinct, list_any}
use Rattle.std.specs.Set.{is_member}
use Rattle.std.specs.declared.cmp.Ordering.TheVariants.{Equal}
use Rattle.std.specs.FinMap as finmap
use Rattle.std.proofs.lemmas.Cmp.{tied_itself}
use Rattle.std.proofs.lemmas.List.{get_or_default}
use Rattle.std.proofs.lemmas.List.Elements.{All-cons, All-contains_itself, All-tail, All-weaker, recursion_from_All}
use Rattle.std.proofs.lemmas.Map.Keys.{IsDistinct-cons, IsDistinct-from_sorted}
use Rattle.std.proofs.lemmas.Map.Made.{Contains-tail, is_member-Decides}
use Rattle.canvas_model.specs.declared.ObjId.{ObjId}
use Rattle.canvas_model.specs.declared.Counts.{Counts}
use Rattle.canvas_model.specs.Ids.{id_cmp, root, same_id}
use Rattle.canvas_model.specs.Document.{Doc, IsDocument, Object, Place, live, may_stand, place_of}
use Rattle.canvas_model.specs.Chain.{AreBelow, InTree}
use Rattle.canvas_model.specs.State.{IsSound, State}
use Rattle.canvas_model.proofs.Ids.{id_itself, id_total}
use Rattle.canvas_model.proofs.Trees.{below_live}
use Rattle.canvas_doc.proofs.Maps.{differ, each_found, exact_ids, same_exact, same_or_differ}
use Rattle.canvas_doc.proofs.Searched.{pair_at}
use Rattle.canvas_judge.specs.Sound.{IsSoundAt}
use Rattle.canvas_judge.proofs.Gathered.{few, none_there}

-- ---- all live objects are in the tree where as many lie below the root

-- ids that have all live objects among them are at least as many
many : (ids : List ObjId) (d : Doc) → ((q : ObjId) → live d q ≡ true → Contains ids q) → finmap.len d ≤ length ids
many [] d inside = go (finmap.entries d) refl
  where
    go : (es : List (ObjId × Object)) → finmap.entries d ≡ es → finmap.len d ≤ 0
    go [] e = omega (arith, finmap.len-entries d, ap length e)
    go (x ∷ es) e =
        let here : list_any (same_id x.0) (map (λ e. e.0) (x ∷ es)) ≡ true = ap (λ b. b || list_any (same_id x.0) (map (λ e. e.0) es)) (id_itself x.0) in
        absurd (none_there x.0 (inside x.0 (finmap.contains_key-keys d x.0 ∙ ap (λ es. list_any (same_id x.0) (map (λ (e : ObjId × Object). e.0) es)) e ∙ here)))
many (q ∷ qs) d inside =
    let rest = many qs (finmap.remove d q) (λ p alive. other p (same_id p q) refl alive) in
    let shorter = go (finmap.contains_key d q) (finmap.len-remove id_total d q) in
    omega (arith, rest, shorter)
  where
    go : (b : Bool) → finmap.len (finmap.remove d q) ≡ cond b (finmap.len d - 1) (finmap.len d) → finmap.len d ≤ finmap.len (finmap.remove d q) + 1
    go true e = omega (arith, e)
    go false e = omega (arith, e)

    other : (p : ObjId) (b : Bool) → same_id p q ≡ b → live (finmap.remove d q) p ≡ true → Contains qs p
    other p true e alive = absurd (let gone : false ≡ true = sym (ap is_some (finmap.get-remove id_total d q p ∙ ap (λ b. cond b None (finmap.get d p)) e)) ∙ alive in cc)
    other p false e alive =
        let there : live d p ≡ true = sym (ap is_some (finmap.get-remove id_total d q p ∙ ap (λ b. cond b None (finmap.get d p)) e)) ∙ alive in
        Contains-tail q qs p (λ same. let itself : same_id p q ≡ true = ap (same_id p) same ∙ id_itself p in let f : ⊥ = cc in f) (inside p there)

-- what the comparison of the numbers answers
pub rooted : (d : Doc) (ids : List ObjId) (n m : ℕ) → AreBelow d root ids → n ≡ length ids → m ≡ length (finmap.entries d) → IsTrue (nat_eq n m) ↔ ((q : ObjId) → IsTrue (live d q) → InTree d q)
rooted d ids n m below is_n is_m = (forth, back)
  where
    len_is : finmap.len d ≡ m
    len_is = finmap.len-entries d ∙ sym is_m

    alive_in : (q : ObjId) → Contains ids q → live d q ≡ true
    alive_in q inside = below_live ((below.1 q).0 inside)

    distinct : IsDistinct same_id ids
    distinct = IsDistinct-from_sorted id_cmp ids below.0

    forth : IsTrue (nat_eq n m) → (q : ObjId) → IsTrue (live d q) → InTree d q
    forth same q alive = go (is_member same_id ids q) (is_member-Decides (λ a b. (same_exact a b, λ is. ap (same_id a) (sym is) ∙ id_itself a)) ids q)
      where
        equal : n ≡ m
        equal = grind (arith, nat_tests)

        go : (b : Bool) → (b ≡ true → Contains ids q) × (Contains ids q → b ≡ true) → InTree d q
        go true decides = (below.1 q).0 (decides.0 refl)
        go false decides =
            let apart : (y : ObjId) → Contains ids y → same_id q y ≡ false = λ y inside. differ q y (λ is. let here : false ≡ true = decides.1 (subst (Contains ids) (sym is) inside) in absurd (cc)) in
            let all = All-weaker (Contains ids) (λ y. same_id q y ≡ false) apart ids (All-contains_itself ids) in
            let more = few (q ∷ ids) d (IsDistinct-cons same_id q ids (recursion_from_All (λ y. same_id q y ≡ false) ids all) distinct) alive_too in
            absurd (omega (arith, more, len_is, equal, is_n))
          where
            alive_too : (p : ObjId) → Contains (q ∷ ids) p → live d p ≡ true
            alive_too p (zero, lt, is) = subst (λ x. live d x ≡ true) is alive
            alive_too p (suc k, lt, is) = alive_in p (k, omega arith, is)

    back : ((q : ObjId) → IsTrue (live d q) → InTree d q) → IsTrue (nat_eq n m)
    back all =
        let at_most = few ids d distinct alive_in in
        let at_least = many ids d (λ q alive. (below.1 q).1 (all q alive)) in
        let equal : n ≡ m = omega (arith, at_most, at_least, len_is, is_n) in
        grind (arith, nat_tests)

-- ---- soundness is soundness at each live object

-- what holds of what the map has at each key holds of all its pairs
each_pair : (P : ObjId × Object → Type 0) (d : Doc) → ((q : ObjId) (o : Object) → finmap.get d q ≡ Some o → P (q, o)) → All P (finmap.entries d)
each_pair P d each k x lt =
    let e = get_or (finmap.entries d) k x in
    let ties : (y : ObjId × Object) → id_cmp (get_or (finmap.entries d) k y).0 e.0 ≡ Equal = λ y. subst (λ (z : ObjId × Object). id_cmp z.0 e.0 ≡ Equal) (sym (get_or_default (finmap.entries d) k y x lt)) (tied_itself id_total e.0) in
    each e.0 e.1 (finmap.get-entries d e.0 ∙ pair_at id_total (finmap.entries d) (finmap.entries_sorted d) e.0 k lt ties x)

-- what holds of the item that comes next holds of all where it holds of those after it
pub one_more : {X : Type 0} (P : X → Type 0) (x : X) (left rest all : List X) → left ≡ x ∷ rest → P x → (All P left ↔ All P all) → All P rest ↔ All P all
one_more P x left rest all is holds same = (λ h. same.0 (subst (All P) (sym is) (All-cons P x rest holds h)), λ h. All-tail P x rest (subst (All P) is (same.1 h)))

module _ (d : Doc) (clients : List Counts) where
  abbrev s : State
  s = record { doc = d; clients = clients }

  abbrev P : ObjId × Object → Type 0
  P = IsSoundAt s

  -- a live object with this place
  placed : (q : ObjId) (place : Place) → place_of d q ≡ Some place → (o : Object) × (finmap.get d q ≡ Some o) × (o.place ≡ Some place)
  placed q place is = go (finmap.get d q) refl
    where
      go : (r : Option Object) → finmap.get d q ≡ r → (o : Object) × (finmap.get d q ≡ Some o) × (o.place ≡ Some place)
      go None e = absurd (let f : None ≡ Some place = sym (ap (option_and_then (λ (o : Object). o.place)) e) ∙ is in cc)
      go (Some o) e = (o, e, sym (ap (option_and_then (λ (o : Object). o.place)) e) ∙ is)

  alive : (q : ObjId) → live d q ≡ true → (o : Object) × (finmap.get d q ≡ Some o)
  alive q is = go (finmap.get d q) refl
    where
      go : (r : Option Object) → finmap.get d q ≡ r → (o : Object) × (finmap.get d q ≡ Some o)
      go None e = absurd (let f : false ≡ true = sym (ap is_some e) ∙ is in cc)
      go (Some o) e = (o, e)

  found : All P (finmap.entries d) → (q : ObjId) (o : Object) → finmap.get d q ≡ Some o → P (q, o)
  found all q o e = each_found exact_ids P (finmap.entries d) (finmap.entries_sorted d) all q o (finmap.get-from_sorted id_cmp (finmap.entries d) q (finmap.entries_sorted d) ∙ sym (finmap.get-entries d q) ∙ e)

  pub sound_at_each : IsDocument d → length clients ≤ 4294967294 → ((q : ObjId) → IsTrue (live d q) → InTree d q) → All P (finmap.entries d) → IsSound s
  sound_at_each document few_clients in_tree all = record {
    in_tree = in_tree;
    at_root = (document.root_kind, document.root_place);
    kinds = λ q place stands k p is_k is_p.
        let there = placed q place stands in
        let sound = found all q there.0 there.1 in
        let kind : there.0.kind ≡ k = some_is _ _ (sym (ap (option_map (λ (o : Object). o.kind)) there.1) ∙ is_k) in
        subst (λ k. IsTrue (may_stand k p)) kind (sound.kind place there.2 p is_p);
    apart = λ q r place stands too.
        let there = placed q place stands in
        let sound = found all q there.0 there.1 in
        elim (same_or_differ r q) as (λ _. q ≡ r) [ inl same ↦ sym same | inr differs ↦ absurd (sound.apart place there.2 (r, (differs, too))) ];
    counters = λ q is_live not_root.
        let there = alive q is_live in
        (found all q there.0 there.1).counter not_root;
    few = few_clients;
  }
    where
      some_is : {X : Type 0} (x y : X) → Some x ≡ Some y → x ≡ y
      some_is x y e = cc

  pub each_is_sound : IsSound s → All P (finmap.entries d)
  each_is_sound sound = each_pair P d (λ q o e. record {
    kind = λ place stands p is_p. sound.kinds q place (ap (option_and_then (λ (o : Object). o.place)) e ∙ stands) o.kind p (ap (option_map (λ (o : Object). o.kind)) e) is_p;
    apart = λ place stands taken. taken.1.0 (sound.apart taken.0 q place taken.1.1 (ap (option_and_then (λ (o : Object). o.place)) e ∙ stands));
    counter = λ not_root. sound.counters q (ap is_some e) not_root;
  })
