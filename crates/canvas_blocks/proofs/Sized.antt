-- How many items stand before a block, and lists of blocks of the same sizes.
use Rattle.std.proofs.Common.{◌≡◌, inl, inr, ℕ, suc, zero, ◌+◌, ◌<◌, ◌≤◌, List, [], ◌∷◌, ◌++◌, Vec, length, get_or, set, take, drop, Option, None, Some, refl, sym, ap, ◌∙◌, arith, length-append}
use Rattle.std.proofs.lemmas.Bool.{cases_lt}
use Rattle.canvas_blocks.specs.Blocks.{flat, index_at, index_of, sizes, IsBefore, IsIn, IsPlace}

module _ {T A : Type 0} where
  -- how many items stand up to the end of a block
  pub upto_next : (bs : List (Vec T A)) (i : ℕ) (v : Vec T A) → i < length bs → length (flat (take (suc i) bs)) ≡ length (flat (take i bs)) + length (get_or bs i v).items
  upto_next [] i v lt = absurd (omega arith)
  upto_next (b ∷ bs) zero v lt = length-append b.items [] ∙ omega arith
  upto_next (b ∷ bs) (suc i) v lt =
      length-append b.items (flat (take (suc i) bs)) ∙ ap (λ k. length b.items + k) (upto_next bs i v (omega arith))
      ∙ let e : length (b.items ++ flat (take i bs)) ≡ length b.items + length (flat (take i bs)) = length-append b.items (flat (take i bs)) in omega (arith, e)

  -- and before a later one, or all of them
  pub upto_more : (bs : List (Vec T A)) (i k : ℕ) → i ≤ k → length (flat (take i bs)) ≤ length (flat (take k bs))
  upto_more bs zero k le = omega arith
  upto_more [] (suc i) k le = omega arith
  upto_more (b ∷ bs) (suc i) zero le = absurd (omega arith)
  upto_more (b ∷ bs) (suc i) (suc k) le =
      let rest = upto_more bs i k (omega arith) in
      let e : length (b.items ++ flat (take i bs)) ≡ length b.items + length (flat (take i bs)) = length-append b.items (flat (take i bs)) in
      let f : length (b.items ++ flat (take k bs)) ≡ length b.items + length (flat (take k bs)) = length-append b.items (flat (take k bs)) in
      omega (arith, rest, e, f)

  pub upto_end : (bs : List (Vec T A)) (i : ℕ) → length bs ≤ i → length (flat (take i bs)) ≡ length (flat bs)
  upto_end [] zero le = refl
  upto_end [] (suc i) le = refl
  upto_end (b ∷ bs) zero le = absurd (omega arith)
  upto_end (b ∷ bs) (suc i) le =
      let rest = upto_end bs i (omega arith) in
      let e : length (b.items ++ flat (take i bs)) ≡ length b.items + length (flat (take i bs)) = length-append b.items (flat (take i bs)) in
      let f : length (b.items ++ flat bs) ≡ length b.items + length (flat bs) = length-append b.items (flat bs) in
      omega (arith, rest, e, f)

  pub upto_within : (bs : List (Vec T A)) (i : ℕ) → length (flat (take i bs)) ≤ length (flat bs)
  upto_within [] zero = omega arith
  upto_within [] (suc i) = omega arith
  upto_within (b ∷ bs) zero = omega arith
  upto_within (b ∷ bs) (suc i) =
      let rest = upto_within bs i in
      let e : length (b.items ++ flat (take i bs)) ≡ length b.items + length (flat (take i bs)) = length-append b.items (flat (take i bs)) in
      let f : length (b.items ++ flat bs) ≡ length b.items + length (flat bs) = length-append b.items (flat bs) in
      omega (arith, rest, e, f)

  -- a place comes before what stands in later blocks
  pub before_next : (bs : List (Vec T A)) (b o : ℕ) (v : Vec T A) → IsIn bs b o → index_of bs b o < length (flat (take (suc b) bs))
  before_next bs b o v there =
      let e = upto_next bs b v there.block_in in
      let inside = there.offset_in v in
      omega (arith, e, inside)

  pub a_block : (bs : List (Vec T A)) (b : ℕ) → b < length bs → Vec T A
  a_block [] b lt = absurd (omega arith)
  a_block (v ∷ bs) b lt = v

  pub before_block : (bs : List (Vec T A)) (b o k : ℕ) → IsIn bs b o → b < k → index_of bs b o < length (flat (take k bs))
  before_block bs b o k there lt =
      let here = before_next bs b o (a_block bs b there.block_in) there in
      let more = upto_more bs (suc b) k (omega arith) in
      omega (arith, here, more)

  pub index_within : (bs : List (Vec T A)) (b o : ℕ) → IsIn bs b o → index_of bs b o < length (flat bs)
  index_within bs b o there =
      let here = before_next bs b o (a_block bs b there.block_in) there in
      let more = upto_within bs (suc b) in
      omega (arith, here, more)

  pub place_within : (bs : List (Vec T A)) (to : Option (ℕ × ℕ)) → IsPlace bs to → index_at bs to ≤ length (flat bs)
  place_within bs None there = omega arith
  place_within bs (Some to) there = let h = index_within bs to.0 to.1 there in omega (arith, h)

  -- the order of places is that of their indices
  pub before_index : (bs : List (Vec T A)) (at : ℕ × ℕ) (to : Option (ℕ × ℕ)) → IsIn bs at.0 at.1 → IsPlace bs to → IsBefore at to → index_of bs at.0 at.1 < index_at bs to
  before_index bs at None there to_in before = index_within bs at.0 at.1 there
  before_index bs at (Some to) there to_in (inl lt) = let h = before_block bs at.0 at.1 to.0 there lt in omega (arith, h)
  before_index bs at (Some to) there to_in (inr both) = let h : length (flat (take at.0 bs)) ≡ length (flat (take to.0 bs)) = ap (λ k. length (flat (take k bs))) both.0 in omega (arith, h, both.1)

  pub after_index : (bs : List (Vec T A)) (at : ℕ × ℕ) (to : Option (ℕ × ℕ)) → IsIn bs at.0 at.1 → IsPlace bs to → (IsBefore at to → ⊥) → index_at bs to ≤ index_of bs at.0 at.1
  after_index bs at None there to_in not_before = absurd (not_before tt)
  after_index bs at (Some to) there to_in not_before = elim (cases_lt to.0 at.0) as (λ _. index_of bs to.0 to.1 ≤ index_of bs at.0 at.1) [
    | inl lt ↦ let h = before_block bs to.0 to.1 at.0 to_in lt in omega (arith, h)
    | inr high ↦ elim (cases_lt at.0 to.0) as (λ _. index_of bs to.0 to.1 ≤ index_of bs at.0 at.1) [
      | inl lt ↦ absurd (not_before (inl lt))
      | inr le ↦
          let same : at.0 ≡ to.0 = omega arith in
          let h : length (flat (take at.0 bs)) ≡ length (flat (take to.0 bs)) = ap (λ k. length (flat (take k bs))) same in
          elim (cases_lt at.1 to.1) as (λ _. index_of bs to.0 to.1 ≤ index_of bs at.0 at.1) [
            | inl lt ↦ absurd (not_before (inr (same, lt)))
            | inr ge ↦ omega (arith, h)
          ]
    ]
  ]

  -- ---- blocks of the same sizes
  pub same_start : (bs cs : List (Vec T A)) (k : ℕ) → sizes bs ≡ sizes cs → length (flat (take k bs)) ≡ length (flat (take k cs))
  same_start bs cs zero same = refl
  same_start [] [] (suc k) same = refl
  same_start [] (c ∷ cs) (suc k) same = absurd (let f : 0 ≡ suc (length (sizes cs)) = ap length same in omega (arith, f))
  same_start (b ∷ bs) [] (suc k) same = absurd (let f : suc (length (sizes bs)) ≡ 0 = ap length same in omega (arith, f))
  same_start (b ∷ bs) (c ∷ cs) (suc k) same =
      let head : length b.items ≡ length c.items = ap (λ l. get_or l 0 0) same in
      let rest = same_start bs cs k (ap (drop 1) same) in
      let e : length (b.items ++ flat (take k bs)) ≡ length b.items + length (flat (take k bs)) = length-append b.items (flat (take k bs)) in
      let f : length (c.items ++ flat (take k cs)) ≡ length c.items + length (flat (take k cs)) = length-append c.items (flat (take k cs)) in
      omega (arith, head, rest, e, f)

  pub same_index : (bs cs : List (Vec T A)) (b o : ℕ) → sizes bs ≡ sizes cs → index_of bs b o ≡ index_of cs b o
  same_index bs cs b o same = ap (λ n. n + o) (same_start bs cs b same)

  pub same_in : (bs cs : List (Vec T A)) (b o : ℕ) → sizes bs ≡ sizes cs → IsIn bs b o → IsIn cs b o
  same_in [] cs b o same there = absurd (let lt = there.block_in in omega (arith, lt))
  same_in (v ∷ bs) [] b o same there = absurd (let f : suc (length (sizes bs)) ≡ 0 = ap length same in omega (arith, f))
  same_in (v ∷ bs) (w ∷ cs) zero o same there = record {
    block_in = omega arith;
    offset_in = λ d. let head : length v.items ≡ length w.items = ap (λ l. get_or l 0 0) same in let lt = there.offset_in d in omega (arith, head, lt);
  }
  same_in (v ∷ bs) (w ∷ cs) (suc b) o same there =
      let rest = same_in bs cs b o (ap (drop 1) same) (record { block_in = omega (arith, there.block_in); offset_in = there.offset_in }) in
      record { block_in = omega (arith, rest.block_in); offset_in = rest.offset_in }

  pub same_length : (bs cs : List (Vec T A)) → sizes bs ≡ sizes cs → length (flat bs) ≡ length (flat cs)
  same_length bs cs same = sym (upto_end bs (length bs + length cs) (omega arith)) ∙ same_start bs cs (length bs + length cs) same ∙ upto_end cs (length bs + length cs) (omega arith)

  pub same_at : (bs cs : List (Vec T A)) (to : Option (ℕ × ℕ)) → sizes bs ≡ sizes cs → index_at bs to ≡ index_at cs to
  same_at bs cs None same = same_length bs cs same
  same_at bs cs (Some to) same = same_index bs cs to.0 to.1 same

  pub same_place : (bs cs : List (Vec T A)) (to : Option (ℕ × ℕ)) → sizes bs ≡ sizes cs → IsPlace bs to → IsPlace cs to
  same_place bs cs None same there = tt
  same_place bs cs (Some to) same there = same_in bs cs to.0 to.1 same there

  pub same_size : (bs : List (Vec T A)) (i : ℕ) (v w : Vec T A) → i < length bs → v ≡ get_or bs i v → length w.items ≡ length v.items → sizes (set bs i w) ≡ sizes bs
  same_size [] i v w lt is long = absurd (omega arith)
  same_size (b ∷ bs) zero v w lt is long = ap (λ n. n ∷ sizes bs) (long ∙ ap (λ (u : Vec T A). length u.items) is)
  same_size (b ∷ bs) (suc i) v w lt is long = ap (λ l. length b.items ∷ l) (same_size bs i v w (omega arith) is long)

  -- ---- a block that got an item more: what stands up to it, stays
  pub start_set : (bs : List (Vec T A)) (i k : ℕ) (w : Vec T A) → k ≤ i → take k (set bs i w) ≡ take k bs
  start_set [] i zero w le = refl
  start_set [] i (suc k) w le = refl
  start_set (b ∷ bs) i zero w le = refl
  start_set (b ∷ bs) zero (suc k) w le = absurd (omega arith)
  start_set (b ∷ bs) (suc i) (suc k) w le = ap (λ l. b ∷ l) (start_set bs i k w (omega arith))

  -- and what stands after it comes one later
  pub later_set : (bs : List (Vec T A)) (i k : ℕ) (v w : Vec T A) → i < k → i < length bs → v ≡ get_or bs i v → length w.items ≡ length v.items + 1 → length (flat (take k (set bs i w))) ≡ length (flat (take k bs)) + 1
  later_set bs i zero v w lt inside is long = absurd (omega arith)
  later_set [] i (suc k) v w lt inside is long = absurd (omega arith)
  later_set (b ∷ bs) zero (suc k) v w lt inside is long =
      let e : length (b.items ++ flat (take k bs)) ≡ length b.items + length (flat (take k bs)) = length-append b.items (flat (take k bs)) in
      let f : length (w.items ++ flat (take k bs)) ≡ length w.items + length (flat (take k bs)) = length-append w.items (flat (take k bs)) in
      let h : length v.items ≡ length b.items = ap (λ (u : Vec T A). length u.items) is in
      omega (arith, e, f, h, long)
  later_set (b ∷ bs) (suc i) (suc k) v w lt inside is long =
      let rest = later_set bs i k v w (omega arith) (omega arith) is long in
      let e : length (b.items ++ flat (take k bs)) ≡ length b.items + length (flat (take k bs)) = length-append b.items (flat (take k bs)) in
      let f : length (b.items ++ flat (take k (set bs i w))) ≡ length b.items + length (flat (take k (set bs i w))) = length-append b.items (flat (take k (set bs i w))) in
      omega (arith, rest, e, f)

  pub in_grown : (bs : List (Vec T A)) (i b o : ℕ) (v w : Vec T A) → i < length bs → v ≡ get_or bs i v → length v.items ≤ length w.items → IsIn bs b o → IsIn (set bs i w) b o
  in_grown [] i b o v w lt is long there = absurd (omega arith)
  in_grown (x ∷ bs) zero zero o v w lt is long there = record {
    block_in = omega arith;
    offset_in = λ d. let h : length v.items ≡ length x.items = ap (λ (u : Vec T A). length u.items) is in let l = there.offset_in d in omega (arith, h, l, long);
  }
  in_grown (x ∷ bs) zero (suc b) o v w lt is long there = record { block_in = omega (arith, there.block_in); offset_in = there.offset_in }
  in_grown (x ∷ bs) (suc i) zero o v w lt is long there = record { block_in = omega arith; offset_in = there.offset_in }
  in_grown (x ∷ bs) (suc i) (suc b) o v w lt is long there =
      let rest = in_grown bs i b o v w (omega arith) is long (record { block_in = omega (arith, there.block_in); offset_in = there.offset_in }) in
      record { block_in = omega (arith, rest.block_in); offset_in = rest.offset_in }
