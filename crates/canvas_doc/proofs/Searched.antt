-- What a binary search by key finds among pairs that are in order.
use Rattle.std.proofs.Common.{◌≡◌, ◌↔◌, IsTrue, ℕ, zero, suc, ◌+◌, ◌<◌, ◌≤◌, Bool, true, false, cond, ◌&&◌, List, [], ◌∷◌, ◌++◌, length, get_or, Some, None, Result, Ok, Err, IfOk, IfErr, T, refl, sym, ap, subst, ◌∙◌, arith, add-one}
use Rattle.std.specs.Prelude.{slice_set}
use Rattle.std.specs.List.{insert, remove, AllWithin, AllAdjacentBelow, IsAllAdjacentAnswer}
use Rattle.std.specs.List.Sorted.{IsSearchInRange, IsBinarySearchResult, IsNonDecreasingBy, IsSortedBy}
use Rattle.std.proofs.lemmas.List.Sorted.{searchable_from_sorted}
use Rattle.std.proofs.lemmas.Cmp.{tied_back}
use Rattle.std.specs.FinMap.Entries.{below_all, where_key}
use Rattle.std.specs.Cmp.{IsTotalOrder}
use Rattle.std.specs.declared.cmp.Ordering.{Ordering}
use Rattle.std.specs.declared.cmp.Ordering.TheVariants.{Less, Equal, Greater}
use Rattle.std.specs.Ordering.{is_lt, is_eq, ordering_index, ordering_reverse}
use Rattle.std.specs.FinMap.{is_sorted, find, put}
use Rattle.canvas_doc.specs.Sorted.{is_other, IsPairAt, IsGapAt}

first : (a b : Bool) → T (a && b) → T a
first true b p = tt
first false b p = p

both : (a b : Bool) → T a → T b → T (a && b)
both true b p q = q
both false b p q = p

pub second : (a b : Bool) → T (a && b) → T b
second true b p = p
second false b p = absurd p

less : (o : Ordering) → T (is_lt o) → o ≡ Less
less Less p = refl
less Equal p = absurd p
less Greater p = absurd p

pub greater : {K : Type 0} {R : K → K → Ordering} → IsTotalOrder R → (x y : K) → R x y ≡ Less → R y x ≡ Greater
greater o x y e = o.antisymm y x ∙ ap ordering_reverse e

smaller_of : {K : Type 0} {R : K → K → Ordering} → IsTotalOrder R → (x y : K) → R x y ≡ Greater → R y x ≡ Less
smaller_of o x y e = o.antisymm y x ∙ ap ordering_reverse e

module _ {K X : Type 0} {R : K → K → Ordering} (o : IsTotalOrder R) where
  abbrev pub below : K → List (K × X) → Type 0
  below x [] = Unit {0}
  below x (e ∷ es) = (R x e.0 ≡ Less) × below x es

  test_from_below : (x : K) (es : List (K × X)) → below x es → T (below_all R x es)
  test_from_below x [] h = tt
  test_from_below x (e ∷ es) h = subst (λ r. T (is_lt r && below_all R x es)) (sym h.0) (test_from_below x es h.1)

  pub below_less : (x y : K) (es : List (K × X)) → R x y ≡ Less → below y es → below x es
  below_less x y [] less h = tt
  below_less x y (e ∷ es) less h = (o.trans x y e.0 less h.0, below_less x y es less h.1)

  below_from_test : (x : K) (es : List (K × X)) → T (below_all R x es) → below x es
  below_from_test x [] h = tt
  below_from_test x (e ∷ es) h = (less _ (first _ _ h), below_from_test x es (second _ _ h))

  pub below_at : (x : K) (es : List (K × X)) → below x es → (i : ℕ) (d : K × X) → i < length es → R x (get_or es i d).0 ≡ Less
  below_at x [] h i d lt = absurd (omega arith)
  below_at x (e ∷ es) h zero d lt = h.0
  below_at x (e ∷ es) h (suc i) d lt = below_at x es h.1 i d (omega arith)

  pub head_below : (e : K × X) (es : List (K × X)) → T (is_sorted R (e ∷ es)) → below e.0 es
  head_below e es h = below_from_test e.0 es (first _ _ h)

  -- the same without what follows
  pub below_front : (x : K) (es fs : List (K × X)) → below x (es ++ fs) → below x es
  below_front x [] fs h = tt
  below_front x (e ∷ es) fs h = (h.0, below_front x es fs h.1)

  pub front_sorted : (es fs : List (K × X)) → T (is_sorted R (es ++ fs)) → T (is_sorted R es)
  front_sorted [] fs h = tt
  front_sorted (e ∷ es) fs h = both _ _ (test_from_below e.0 es (below_front e.0 es fs (head_below e (es ++ fs) h))) (front_sorted es fs (second _ _ h))

  -- neighbours are in order
  adjacent : (es : List (K × X)) → T (is_sorted R es) → (i : ℕ) (d : K × X) → i + 1 < length es → R (get_or es i d).0 (get_or es (i + 1) d).0 ≡ Less
  adjacent [] h i d lt = absurd (omega arith)
  adjacent (e ∷ es) h zero d lt = below_at e.0 es (head_below e es h) 0 d (omega arith)
  adjacent (e ∷ es) h (suc i) d lt = rw add-one (rw add-one at (adjacent es (second _ _ h) i d (omega arith)))

  -- keys that are each less than the next one rise
  rising : (es : List (K × X)) → AllAdjacentBelow (λ x y. true ≡ is_lt (R x.0 y.0)) es (length es) → T (is_sorted R es)
  rising [] h = tt
  rising (e ∷ []) h = tt
  rising (e ∷ f ∷ fs) h =
      let rest = rising (f ∷ fs) (λ k d lt. rw add-one (rw add-one at (h (suc k) d (omega (arith, lt))))) in
      let here : R e.0 f.0 ≡ Less = less _ (subst T (h 0 e (omega arith)) tt) in
      both _ _ (test_from_below e.0 (f ∷ fs) (here, below_less e.0 f.0 fs here (head_below f fs rest))) rest

  pub rising_answer : (es : List (K × X)) (r : Bool) → IsAllAdjacentAnswer (λ x y b. b ≡ is_lt (R x.0 y.0)) es r → IsTrue r ↔ T (is_sorted R es)
  rising_answer es true h = (λ _. rising es h, λ _. refl)
  rising_answer [] false h = absurd (omega (arith, h.1))
  rising_answer (e ∷ es) false h = (λ t. absurd (cc), λ sorted. absurd (let turned : false ≡ true = h.2 e ∙ ap is_lt (adjacent (e ∷ es) sorted h.0 e h.1) in cc))

  sorted_by : (es : List (K × X)) → T (is_sorted R es) → IsSortedBy (λ a b. is_lt (R a.0 b.0)) es
  sorted_by es h i d low lt = rw (greater o _ _ (adjacent es h i d lt)) refl

  pub rises : (es : List (K × X)) → T (is_sorted R es) → (k : K) → IsNonDecreasingBy (λ e. ordering_index (R e.0 k)) es
  rises es h k = searchable_from_sorted o (λ e. e.0) es k (sorted_by es h)

  -- a pair that ties with k is found
  pub pair_at : (es : List (K × X)) → T (is_sorted R es) → (k : K) (i : ℕ) → i < length es → ((d : K × X) → R (get_or es i d).0 k ≡ Equal) → (d : K × X) → find R k es ≡ Some (get_or es i d).1
  pair_at [] h k i lt ties d = absurd (omega arith)
  pair_at (e ∷ es) h k zero lt ties d = rw (tied_back o _ _ (ties d)) refl
  pair_at (e ∷ es) h k (suc i) lt ties d =
      let further = o.congr _ _ e.0 (ties d) in
      let later = greater o _ _ (below_at e.0 es (head_below e es h) i d (omega arith)) in
      rw (sym further ∙ later) (pair_at es (second _ _ h) k i (omega arith) ties d)

  all_below : (k : K) (es : List (K × X)) → ((i : ℕ) (d : K × X) → i < length es → R k (get_or es i d).0 ≡ Less) → below k es
  all_below k [] h = tt
  all_below k (e ∷ es) h = (h 0 e (omega arith), all_below k es (λ i d lt. h (suc i) d (omega arith)))

  -- a key below all isn't found
  pub missing : (k : K) (es : List (K × X)) → below k es → find R k es ≡ None
  missing k [] h = refl
  missing k (e ∷ es) h = rw h.0 (missing k es h.1)

  -- a place between smaller and greater keys is a gap
  gap_at : (es : List (K × X)) (k : K) (i : ℕ) → i ≤ length es → AllWithin (λ e. R e.0 k ≡ Less) es 0 i → AllWithin (λ e. R e.0 k ≡ Greater) es i (length es) → (find R k es ≡ None) × ((x : X) → insert es i (k, x) ≡ put R k x es)
  gap_at [] k zero le smaller greater_after = (refl, λ x. refl)
  gap_at [] k (suc i) le smaller greater_after = absurd (omega arith)
  gap_at (e ∷ es) k zero le smaller greater_after =
      let here = smaller_of o _ _ (greater_after 0 e (omega arith) (omega arith)) in
      let after = missing k es (all_below k es (λ i d lt. smaller_of o _ _ (greater_after (suc i) d (omega arith) (omega arith)))) in
      (rw here after, λ x. rw here refl)
  gap_at (e ∷ es) k (suc i) le smaller greater_after =
      let rest = gap_at es k i (omega arith) (λ j d low lt. smaller (suc j) d (omega arith) (omega arith)) (λ j d low lt. greater_after (suc j) d (omega arith) (omega arith)) in
      let here = greater o _ _ (smaller 0 e (omega arith) (omega arith)) in
      (rw here rest.0, λ x. rw here (ap (λ es. e ∷ es) (rest.1 x)))

  pub searched : (es : List (K × X)) → T (is_sorted R es) → (k : K) (r : Result ℕ ℕ) → IsSearchInRange r (length es) → IsBinarySearchResult (λ e. R e.0 k) es r → IfOk r (IsPairAt R es k) × IfErr r (IsGapAt R es k)
  searched es h k (Ok i) within equal = (record { in_range = within; tied = equal; found = pair_at es h k i within equal }, tt)
  searched es h k (Err i) within parted =
      let point = parted (rises es h k) in
      let gap = gap_at es k i within point.0 point.1 in
      (tt, record { in_range = within; absent = gap.0; put_there = gap.1 })

  -- the pair of a key with another value
  pub set_puts : (es : List (K × X)) → T (is_sorted R es) → (k : K) (i : ℕ) → i < length es → ((d : K × X) → R (get_or es i d).0 k ≡ Equal) → (d : K × X) (v : X) → slice_set es i ((get_or es i d).0, v) ≡ put R k v es
  set_puts [] h k i lt tied d v = absurd (omega arith)
  set_puts (e ∷ es) h k zero lt tied d v = rw (tied_back o _ _ (tied d)) refl
  set_puts (e ∷ es) h k (suc i) lt tied d v =
      let further = o.congr _ _ e.0 (tied d) in
      let later = greater o _ _ (below_at e.0 es (head_below e es h) i d (omega arith)) in
      rw (sym further ∙ later) (ap (λ es. e ∷ es) (set_puts es (second _ _ h) k i (omega arith) tied d v))

  all_kept : (es : List (K × X)) (k : K) → ((i : ℕ) (d : K × X) → i < length es → is_eq (R (get_or es i d).0 k) ≡ false) → where_key R (is_other R k) es ≡ es
  all_kept [] k h = refl
  all_kept (e ∷ es) k h = rw (h 0 e (omega arith)) (ap (λ es. e ∷ es) (all_kept es k (λ i d lt. h (suc i) d (omega arith))))

  removed : (es : List (K × X)) → T (is_sorted R es) → (k : K) (i : ℕ) → i < length es → ((d : K × X) → R (get_or es i d).0 k ≡ Equal) → remove es i ≡ where_key R (is_other R k) es
  removed [] h k i lt tied = absurd (omega arith)
  removed (e ∷ es) h k zero lt tied =
      let later : (i : ℕ) (d : K × X) → i < length es → is_eq (R (get_or es i d).0 k) ≡ false = λ i d lt. ap is_eq (greater o k _ (sym (o.congr e.0 k _ (tied e)) ∙ below_at e.0 es (head_below e es h) i d lt)) in
      rw (tied e) (sym (all_kept es k later))
  removed (e ∷ es) h k (suc i) lt tied =
      let further = o.congr _ _ e.0 (tied e) in
      let later = greater o _ _ (below_at e.0 es (head_below e es h) i e (omega arith)) in
      rw (smaller_of o _ _ (sym further ∙ later)) (ap (λ es. e ∷ es) (removed es (second _ _ h) k i (omega arith) tied))

  not_there : (es : List (K × X)) (k : K) → find R k es ≡ None → where_key R (is_other R k) es ≡ es
  not_there [] k none = refl
  not_there (e ∷ es) k none =
      elim (R k e.0) as (λ r. R k e.0 ≡ r → cond (is_eq r) (Some e.1) (find R k es) ≡ None → where_key R (is_other R k) (e ∷ es) ≡ e ∷ es) [
        | Less ↦ λ is none. rw (greater o k e.0 is) (ap (λ es. e ∷ es) (not_there es k none))
        | Equal ↦ λ is none. absurd (let f : Some e.1 ≡ None = none in cc)
        | Greater ↦ λ is none. rw (smaller_of o k e.0 is) (ap (λ es. e ∷ es) (not_there es k none))
      ] refl none

  -- the pairs without that of the key, where a slice of them was searched
  module _ (es fs : List (K × X)) (h : T (is_sorted R es)) (same : fs ≡ es) (k : K) where
    pub taken_out : (gs : List (K × X)) (i : ℕ) → IsPairAt R fs k i → gs ≡ remove es i → gs ≡ where_key R (is_other R k) es
    taken_out gs i found is = let at = subst (λ es. IsPairAt R es k i) same found in is ∙ removed es h k i at.in_range at.tied

    pub put_there : (i : ℕ) (v : X) (e : K × X) → IsPairAt R fs k i → e ≡ get_or es i e → slice_set es i (e.0, v) ≡ put R k v es
    put_there i v e found is =
        let at = subst (λ es. IsPairAt R es k i) same found in
        ap (λ (x : K × X). slice_set es i (x.0, v)) is ∙ set_puts es h k i at.in_range at.tied e v

    pub none_taken : (i : ℕ) → IsGapAt R fs k i → es ≡ where_key R (is_other R k) es
    none_taken i gap = sym (not_there es k (ap (find R k) (sym same) ∙ gap.absent))
