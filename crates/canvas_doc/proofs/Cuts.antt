-- What edges of a document's rows and spots are, and what becomes of the rows and the spots there.
use Rattle.std.proofs.Common.{◌≡◌, ◌≢◌, inl, inr, ℕ, ◌-◌, ◌<◌, Bool, true, false, cond, List, length, get_or, set, Option, Some, None, T, refl, sym, ap, subst, ◌∙◌, arith}
use Rattle.std.specs.Prelude.{is_some, not, nat_lt}
use Rattle.std.specs.List.{Contains, insert, remove, slice_get}
use Rattle.std.specs.Option.{option_and_then, option_map, option_map_or}
use Rattle.std.proofs.lemmas.Bool.{cases_lt}
use Rattle.std.proofs.lemmas.Bool.Decides.{nat_tests}
use Rattle.std.proofs.lemmas.Cmp.{tied_itself}
use Rattle.std.proofs.lemmas.List.{get_or_default}
use Rattle.std.specs.Cmp.{IsTotalOrder}
use Rattle.std.specs.FinMap as map
use Rattle.std.specs.FinMap.Entries.{where_key}
use Rattle.std.specs.Ordering.{is_eq, is_lt, match_ordering}
use Rattle.std.specs.declared.cmp.Ordering.{Ordering}
use Rattle.std.specs.declared.cmp.Ordering.TheVariants.{Less, Equal, Greater}
use Rattle.canvas_blocks.specs.Blocks.{IsEdge, goes_to, moved, with_value}
use Rattle.canvas_model.specs.declared.ObjId.{ObjId}
use Rattle.canvas_model.specs.Ids.{id_cmp}
use Rattle.canvas_model.specs.Document.{Doc, Object, Place, Pos, live, place_of}
use Rattle.canvas_pos.specs.Digits.{first_digits}
use Rattle.canvas_doc.specs.Known.{HasObjects}
use Rattle.canvas_doc.specs.Sorted.{is_other, IsPairAt, IsGapAt}
use Rattle.canvas_doc.specs.declared.spots.Spot.{Spot}
use Rattle.canvas_doc.specs.Spots.{AreSpots, IsCut, Places, is_before, is_lower, new_spot, spot_at}
use Rattle.canvas_doc.proofs.Maps.{differ, exact_ids, ids_total, same_or_differ}
use Rattle.canvas_doc.proofs.Kept.{get_removed}
use Rattle.canvas_doc.proofs.Spotted.{other_than, spots_same, spots_with, spots_without}
use Rattle.canvas_doc.proofs.Placing.{Target, any_spot, moved_spots, spot_found}
use Rattle.canvas_doc.proofs.Searched.{taken_out, put_there}
use Rattle.canvas_doc.proofs.Edges.{found_at, found_none, gap_at_end, gap_before, got_none, got_some, not_found_at, pair_here}

-- ---- pairs in the order of their keys
module _ {K X : Type 0} {R : K → K → Ordering} (o : IsTotalOrder R) (es : List (K × X)) (sorted : T (map.is_sorted R es)) (k : K) (i : ℕ) (edge : IsEdge (λ e b. b ≡ is_lt (R e.0 k)) es i) where
  tied_or_not : (e : K × X) → Some e ≡ slice_get es i → (R e.0 k ≡ Equal → ⊥) → is_some (map.find R k es) ≡ true → ⊥
  tied_or_not e got ne some = let f : false ≡ true = ap is_some (not_found_at o es sorted k i edge e got ne) ∙ some in cc

  -- where the key is found, it is found at the edge
  pub pair_at_edge : is_some (map.find R k es) ≡ true → IsPairAt R es k i
  pair_at_edge some = elim (slice_get es i) as (λ r. r ≡ slice_get es i → IsPairAt R es k i) [
    | None ↦ λ got. absurd (let f : false ≡ true = ap is_some (found_none o es sorted k i edge got) ∙ some in cc)
    | Some e ↦ λ got. elim (R e.0 k) as (λ r. R e.0 k ≡ r → IsPairAt R es k i) [
      | Less ↦ λ is. absurd (tied_or_not e got (λ tied. let f : Less ≡ Equal = sym is ∙ tied in cc) some)
      | Equal ↦ λ is. pair_here o es sorted k i edge e got is
      | Greater ↦ λ is. absurd (tied_or_not e got (λ tied. let f : Greater ≡ Equal = sym is ∙ tied in cc) some)
    ] refl
  ] refl

  -- and where it isn't, the edge is where it would go
  pub gap_at_edge : is_some (map.find R k es) ≡ false → IsGapAt R es k i
  gap_at_edge none = elim (slice_get es i) as (λ r. r ≡ slice_get es i → IsGapAt R es k i) [
    | None ↦ λ got. gap_at_end o es sorted k i edge (got_none es i got)
    | Some e ↦ λ got. gap_before o es sorted k i edge e got (λ tied. let f : true ≡ false = ap is_some (found_at o es sorted k i edge e got tied) ∙ none in cc)
  ] refl

-- another value for the key's pair, and its own one
module _ {K X : Type 0} {R : K → K → Ordering} (o : IsTotalOrder R) (es : List (K × X)) (sorted : T (map.is_sorted R es)) (k : K) (i : ℕ) (found : IsPairAt R es k i) where
  pub value_put : (v : X) → with_value es i v ≡ map.put R k v es
  value_put v = elim (slice_get es i) as (λ r. r ≡ slice_get es i → option_map_or (λ (e : K × X). set es i (e.0, v)) r es ≡ map.put R k v es) [
    | None ↦ λ got. absurd (let le = got_none es i got in omega (arith, found.in_range))
    | Some e ↦ λ got. put_there o es es sorted refl k i v e found (sym ((got_some es i e got).1 e))
  ] refl

  pub value_found : option_map (λ (e : K × X). e.1) (slice_get es i) ≡ map.find R k es
  value_found = elim (slice_get es i) as (λ r. r ≡ slice_get es i → option_map (λ (e : K × X). e.1) r ≡ map.find R k es) [
    | None ↦ λ got. absurd (let le = got_none es i got in omega (arith, found.in_range))
    | Some e ↦ λ got. ap (λ (x : K × X). Some x.1) (sym ((got_some es i e got).1 e)) ∙ sym (found.found e)
  ] refl

-- ---- the rows
module _ (es : List (ObjId × Object)) (sorted : T (map.is_sorted id_cmp es)) (id : ObjId) (i : ℕ) (edge : IsEdge (λ e b. b ≡ is_lt (id_cmp e.0 id)) es i) where
  there : map.get (map.from_sorted {R = id_cmp} es) id ≡ map.find id_cmp id es
  there = map.get-from_sorted id_cmp es id sorted

  -- an object that isn't live is put there
  pub row_put_there : live (map.from_sorted es) id ≡ false → (o : Object) → insert es i (id, o) ≡ map.put id_cmp id o es
  row_put_there gone o = (gap_at_edge ids_total es sorted id i edge (sym (ap is_some there) ∙ gone)).put_there o

  module _ (lives : live (map.from_sorted es) id ≡ true) where
    own : IsPairAt id_cmp es id i
    own = pair_at_edge ids_total es sorted id i edge (sym (ap is_some there) ∙ lives)

    -- a live one is taken out there
    pub row_taken : remove es i ≡ where_key id_cmp (is_other id_cmp id) es
    row_taken = taken_out ids_total es es sorted refl id (remove es i) i own refl

    -- or gets another value there
    pub row_value : (o : Object) → with_value es i o ≡ map.put id_cmp id o es
    row_value o = value_put ids_total es sorted id i own o

    pub row_was : option_map (λ (e : ObjId × Object). e.1) (slice_get es i) ≡ map.find id_cmp id es
    row_was = value_found ids_total es sorted id i own

    pub row_lives : is_some (map.find id_cmp id es) ≡ true
    row_lives = sym (ap is_some there) ∙ lives

-- ---- the spots
-- a test for the spots before this parent, position and id, where it answers for those of the document alone
module _ (es : List (ObjId × Object)) (sorted : T (map.is_sorted id_cmp es)) (known : HasObjects (map.from_sorted es)) (spots : List Spot) (each : (s : Spot) → Contains spots s → spot_at (place_of (map.from_sorted es)) s.id ≡ Some s)
    (digits : ℕ) (parent : ObjId) (pos : Pos) (id : ObjId) (digits_are : digits ≡ first_digits pos) (i : ℕ) where
  -- what the test's contract says
  abbrev pub Answers : Spot → Bool → Type 0
  Answers s b = T (map.is_sorted id_cmp es) → HasObjects (map.from_sorted es) → digits ≡ first_digits pos → spot_at (place_of (map.from_sorted es)) s.id ≡ Some s → b ≡ is_before (place_of (map.from_sorted es)) parent pos id s

  inside_at : (k : ℕ) (d : Spot) → k < length spots → Contains spots (get_or spots k d)
  inside_at k d lt = (k, lt, get_or_default spots k (get_or spots k d) d lt)

  pub cut_told : IsEdge Answers spots i → IsCut (place_of (map.from_sorted es)) parent pos id spots i
  cut_told edge = record {
    within = edge.within;
    before = λ d lt. edge.before d lt sorted known digits_are (each (get_or spots (i - 1) d) (inside_at (i - 1) d (omega (arith, edge.within))));
    after = λ d lt. edge.after d lt sorted known digits_are (each (get_or spots i d) (inside_at i d lt));
  }

-- the document without an object
module _ (d : Doc) (id : ObjId) (spots : List Spot) where
  gone_stands : place_of (map.remove d id) id ≡ None
  gone_stands = ap (option_and_then (λ (o : Object). o.place)) (get_removed ids_total exact_ids d id id ∙ ap (λ r. cond (not (is_eq r)) (map.get d id) None) (tied_itself ids_total id))

  others_stand : (q : ObjId) → q ≢ id → place_of (map.remove d id) q ≡ place_of d q
  others_stand q ne = ap (option_and_then (λ (o : Object). o.place)) (get_removed ids_total exact_ids d id q ∙ ap (λ b. cond (not b) (map.get d q) None) (differ q id ne))

  nothing_gone : place_of d id ≡ None → (q : ObjId) → place_of d q ≡ place_of (map.remove d id) q
  nothing_gone none q = elim (same_or_differ q id) as (λ _. place_of d q ≡ place_of (map.remove d id) q) [
    | inl e ↦ ap (place_of d) e ∙ none ∙ sym gone_stands ∙ sym (ap (place_of (map.remove d id)) e)
    | inr ne ↦ sym (others_stand q ne)
  ]

  -- its spot is taken out
  pub spot_taken : AreSpots (place_of d) spots → (place : Place) → place_of d id ≡ Some place → (i : ℕ) → IsCut (place_of d) place.parent place.pos id spots i → AreSpots (place_of (map.remove d id)) (remove spots i)
  spot_taken are place stands i cut =
      let found = spot_found (place_of d) spots are id place stands i cut in
      let x = get_or spots i any_spot in
      spots_without (place_of d) (place_of (map.remove d id)) spots are id others_stand gone_stands i x found.0 (get_or_default spots i any_spot x found.0) (found.1 any_spot)

  -- it had none
  pub none_taken : AreSpots (place_of d) spots → place_of d id ≡ None → AreSpots (place_of (map.remove d id)) spots
  none_taken are none = spots_same (place_of d) (place_of (map.remove d id)) spots (nothing_gone none) are

  -- or is put in
  module _ (are : AreSpots (place_of (map.remove d id)) spots) where
    other : (s : Spot) → Contains spots s → s.id ≢ id
    other = other_than (place_of (map.remove d id)) (place_of d) spots are id (λ q ne. sym (others_stand q ne)) gone_stands

    pub others_spots : (s : Spot) → Contains spots s → spot_at (place_of d) s.id ≡ Some s
    others_spots s inside = ap (option_map (new_spot s.id)) (sym (others_stand s.id (other s inside))) ∙ (are.each s).0 inside

    pub spot_put : (place : Place) → place_of d id ≡ Some place → (i : ℕ) → IsCut (place_of d) place.parent place.pos id spots i → AreSpots (place_of d) (insert spots i (new_spot id place))
    spot_put place stands i cut =
        spots_with (place_of (map.remove d id)) (place_of d) spots are id (λ q ne. sym (others_stand q ne)) gone_stands place stands i (record {
          within = cut.within;
          before = λ s lt. cut.before s lt ∙ same (i - 1) s (omega (arith, cut.within));
          after = λ s lt. cut.after s lt ∙ same i s lt;
        })
      where
        same : (k : ℕ) (s : Spot) → k < length spots → is_before (place_of d) place.parent place.pos id (get_or spots k s) ≡ is_before (place_of (map.remove d id)) place.parent place.pos id (get_or spots k s)
        same k s lt =
            let x = get_or spots k s in
            ap (λ (o : Option Place). match_ordering (id_cmp x.parent place.parent) true (is_lower (option_map (λ (p : Place). p.pos) o) x.id place.pos id) false)
            (sym (others_stand x.id (other x (k, lt, get_or_default spots k x s lt))))

    pub none_put : place_of d id ≡ None → AreSpots (place_of d) spots
    none_put none = spots_same (place_of (map.remove d id)) (place_of d) spots (λ q. sym (nothing_gone none q)) are

-- a spot that moves
goes : (i j : ℕ) → Target i j (goes_to i j)
goes i j = elim (cases_lt i j) as (λ _. Target i j (goes_to i j)) [
  | inl lt ↦ inl (lt, grind (arith, nat_tests))
  | inr le ↦ inr (omega arith, grind (arith, nat_tests))
]

module _ (p q : Places) (spots : List Spot) (are : AreSpots p spots) (id : ObjId) (others : (x : ObjId) → x ≢ id → q x ≡ p x) (old new : Place) (stood : p id ≡ Some old) (stands : q id ≡ Some new)
    (i j : ℕ) (from : IsCut p old.parent old.pos id spots i) (to : IsCut p new.parent new.pos id spots j) where
  pub spot_moved : AreSpots q (moved spots i j (new_spot id new))
  spot_moved =
      let found = spot_found p spots are id old stood i from in
      let x = get_or spots i any_spot in
      let there = moved_spots p q spots are id others new stands j to i x found.0 (get_or_default spots i any_spot x found.0) (found.1 any_spot) (goes_to i j) (goes i j) in
      let within : nat_lt i (length spots) ≡ true = let lt = found.0 in grind (arith, nat_tests) in
      subst (AreSpots q) (ap (λ b. cond b (insert (remove spots i) (goes_to i j) (new_spot id new)) spots) (sym within)) there
