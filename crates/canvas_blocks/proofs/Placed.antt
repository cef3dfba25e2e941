-- Items of lists in blocks.
use Rattle.std.proofs.Common.{◌≡◌, ℕ, suc, zero, ◌+◌, ◌-◌, ◌<◌, ◌≤◌, inl, inr, Bool, true, false, List, [], ◌∷◌, ◌++◌, Vec, length, get_or, set, take, drop, refl, sym, ap, subst, ◌∙◌, arith, length-append, length-drop, length-set, length-take-le, take-append-drop, get_or-drop}
use Rattle.std.specs.List.{insert, remove, slice_get}
use Rattle.std.proofs.lemmas.Bool.{cases_lt}
use Rattle.std.specs.Prelude.{Some}
use Rattle.std.proofs.lemmas.List.{get_or_read, take_rest}
use Rattle.std.proofs.lemmas.Option.{slice_get-get_or}
use Rattle.std.proofs.lemmas.List.Concat.{get_or-flat_map}
use Rattle.canvas_blocks.specs.Blocks.{flat, index_of, IsEdge, IsIn, NoneEmpty}
use Rattle.canvas_blocks.proofs.Flat.{parted, parted_set, inserted, removed, replaced, got, dropped, without_empty, last_pushed, split_same}
use Rattle.canvas_blocks.proofs.Within.{each-insert, each-set}
use Rattle.canvas_blocks.proofs.Sized.{upto_next}

-- the item at this index of all is the one at this offset of this block
pub record IsAt {T A : Type 0} (bs : List (Vec T A)) (index block offset : ℕ) : Type 0 where
  pub block_in : block < length bs
  pub offset_in : (d : Vec T A) → offset < length (get_or bs block d).items
  pub is : length (flat (take block bs)) + offset ≡ index

pub at_index : {T A : Type 0} (bs : List (Vec T A)) (b o : ℕ) → IsIn bs b o → IsAt bs (index_of bs b o) b o
at_index bs b o there = record { block_in = there.block_in; offset_in = there.offset_in; is = refl }

no_items : {T : Type 0} (xs : List T) → length xs ≡ 0 → xs ≡ []
no_items [] e = refl
no_items (x ∷ xs) e = absurd (omega arith)

-- what a test answers at the element that is read
pub at_here : {X : Type 0} (answers : X → Bool → Type 0) (xs : List X) (i k : ℕ) (x : X) (a b : Bool) → i < length xs → x ≡ get_or xs i x → answers x a → a ≡ b → k ≡ i → (d : X) → answers (get_or xs k d) b
at_here answers xs i k x a b lt is said e same d =
    subst (λ k. answers (get_or xs k d) b) (sym same) (subst (λ y. answers y b) (get_or_read xs i x lt is d) (subst (answers x) e said))

-- and at the first item of the block that is read
pub at_block : {T A : Type 0} (answers : T → Bool → Type 0) (bs : List (Vec T A)) (i k : ℕ) (v : Vec T A) (x : T) (a b : Bool) → i < length bs → v ≡ get_or bs i v → 0 < length v.items → x ≡ get_or v.items 0 x → answers x a → a ≡ b → k ≡ i → (u : Vec T A) (d : T) → answers (get_or (get_or bs k u).items 0 d) b
at_block {T} {A} answers bs i k v x a b lt is long first said e same u d =
    subst (λ k. answers (get_or (get_or bs k u).items 0 d) b) (sym same)
    (subst (λ (w : Vec T A). answers (get_or w.items 0 d) b) (get_or_read bs i v lt is u) (at_here answers v.items 0 0 x a b long first said e refl d))

-- the blocks after the first
pub none_after : {T A : Type 0} (bs cs : List (Vec T A)) (b : Vec T A) → NoneEmpty bs → bs ≡ b ∷ cs → NoneEmpty cs
none_after {T} {A} bs cs b none is k d low lt = let all = subst (λ (bs : List (Vec T A)). NoneEmpty bs) is none in all (suc k) d (omega arith) (omega arith)

-- how many items are left after the first of the next block
pub one_less : {T A : Type 0} (first s rest : List T) (bs cs : List (Vec T A)) (b : Vec T A) (x : T) (n : ℕ) → n ≡ length (first ++ flat bs) → length first ≡ 0 → bs ≡ b ∷ cs → s ≡ b.items → s ≡ x ∷ rest → n - 1 ≡ length (rest ++ flat cs)
one_less {T} {A} first s rest bs cs b x n counted none is same more =
    let all : n ≡ length (b.items ++ flat cs) = counted ∙ ap (λ l. length (l ++ flat bs)) (no_items first none) ∙ ap (λ (l : List (Vec T A)). length (flat l)) is in
    let next : n ≡ length (x ∷ (rest ++ flat cs)) = all ∙ ap (λ l. length (l ++ flat cs)) (sym same ∙ more) in
    omega (arith, next)

module _ {T A : Type 0} where
  items : Vec T A → List T
  items b = b.items

  module _ (bs : List (Vec T A)) (n b j : ℕ) (at : IsAt bs n b j) (v : Vec T A) (is : v ≡ get_or bs b v) where
    here : j < length v.items
    here = subst (λ (u : Vec T A). j < length u.items) (sym is) (at.offset_in v)

    within : j < length (get_or bs b v).items
    within = at.offset_in v

    pub item_got : slice_get (flat bs) n ≡ slice_get v.items j
    item_got = got (λ (b : Vec T A). b.items) bs b j n v v at.block_in at.is within ∙ ap (λ (u : Vec T A). slice_get u.items j) (sym is)

    pub item_read : (d : T) → get_or (flat bs) n d ≡ get_or v.items j d
    item_read d = ap (λ n. get_or (flat bs) n d) (sym at.is) ∙ get_or-flat_map (λ (b : Vec T A). b.items) bs b j v d at.block_in within ∙ ap (λ (u : Vec T A). get_or u.items j d) (sym is)

    pub rest_is : drop n (flat bs) ≡ drop j v.items ++ flat (drop (suc b) bs)
    rest_is = dropped (λ (b : Vec T A). b.items) bs b j n v v at.block_in at.is (omega (arith, within)) ∙ ap (λ (u : Vec T A). drop j u.items ++ flat (drop (suc b) bs)) (sym is)

    pub index_within : n < length (flat bs)
    index_within =
        let total : length (flat bs) ≡ length (flat (take b bs)) + (length (get_or bs b v).items + length (flat (drop (suc b) bs))) =
        ap length (parted (λ (b : Vec T A). b.items) bs b v at.block_in) ∙ length-append (flat (take b bs)) ((get_or bs b v).items ++ flat (drop (suc b) bs))
        ∙ ap (λ k. length (flat (take b bs)) + k) (length-append (get_or bs b v).items (flat (drop (suc b) bs))) in
        omega (arith, total, within, at.is)

    module _ (w : Vec T A) where
      pub item_inserted : (x : T) → w.items ≡ insert v.items j x → flat (set bs b w) ≡ insert (flat bs) n x
      item_inserted x new = inserted (λ (b : Vec T A). b.items) bs b j n v w at.block_in at.is x (omega (arith, within)) (new ∙ ap (λ (u : Vec T A). insert u.items j x) is)

      pub item_replaced : (x : T) → w.items ≡ set v.items j x → flat (set bs b w) ≡ set (flat bs) n x
      item_replaced x new = replaced (λ (b : Vec T A). b.items) bs b j n v w at.block_in at.is x within (new ∙ ap (λ (u : Vec T A). set u.items j x) is)

      pub item_removed : w.items ≡ remove v.items j → flat (set bs b w) ≡ remove (flat bs) n
      item_removed new = removed (λ (b : Vec T A). b.items) bs b j n v w at.block_in at.is within (new ∙ ap (λ (u : Vec T A). remove u.items j) is)

  -- a block with the same items, and the last with one more
  pub block_kept : (bs : List (Vec T A)) (i : ℕ) (v w : Vec T A) → i < length bs → v ≡ get_or bs i v → w.items ≡ v.items → flat (set bs i w) ≡ flat bs
  block_kept bs i v w lt is same =
      parted_set (λ (b : Vec T A). b.items) bs i w lt
      ∙ ap (λ l. flat (take i bs) ++ (l ++ flat (drop (suc i) bs))) (same ∙ ap (λ (u : Vec T A). u.items) is)
      ∙ sym (parted (λ (b : Vec T A). b.items) bs i v lt)

  pub block_pushed : (bs : List (Vec T A)) (i : ℕ) (v w : Vec T A) (x : T) → i + 1 ≡ length bs → v ≡ get_or bs i v → w.items ≡ v.items ++ x ∷ [] → flat (set bs i w) ≡ flat bs ++ x ∷ []
  block_pushed bs i v w x e is new = last_pushed (λ (b : Vec T A). b.items) bs i w v x e (new ∙ ap (λ (u : Vec T A). u.items ++ x ∷ []) is)

  -- a block that is split in two
  module _ (bs cs ds : List (Vec T A)) (i n h : ℕ) (v w u : Vec T A) (same : cs ≡ bs) (lt : i < length cs) (is : v ≡ get_or cs i v) (low : w.items ≡ take h v.items) (high : u.items ≡ drop h v.items) (next : n ≡ suc i) (new : ds ≡ insert (set cs i w) n u) where
    whole : w.items ++ u.items ≡ (get_or cs i v).items
    whole = ap (λ l. l ++ u.items) low ∙ ap (λ l. take h v.items ++ l) high ∙ take-append-drop h v.items ∙ ap (λ (x : Vec T A). x.items) is

    pub halved : flat ds ≡ flat bs
    halved = ap flat new ∙ split_same (λ (b : Vec T A). b.items) cs i n w u v lt next whole ∙ ap flat same

    pub halves_full : NoneEmpty bs → 0 < h → h < length v.items → NoneEmpty ds
    halves_full none pos more =
        let w_long : 0 < length w.items = let e : length w.items ≡ h = ap length low ∙ length-take-le h v.items (omega arith) in omega (arith, e) in
        let u_long : 0 < length u.items = let e : length u.items ≡ length v.items - h = ap length high ∙ length-drop h v.items in omega (arith, e) in
        let n_in : n ≤ length (set cs i w) = let e : length (set cs i w) ≡ length cs = length-set cs i w in omega (arith, e) in
        subst (λ (l : List (Vec T A)). NoneEmpty l) (sym new)
        (each-insert (λ (b : Vec T A). 0 < length b.items) (set cs i w) n u n_in
        (each-set (λ (b : Vec T A). 0 < length b.items) cs i w (subst (λ (l : List (Vec T A)). NoneEmpty l) (sym same) none) w_long) u_long)

  -- a block without items is left out
  pub block_removed : (bs cs : List (Vec T A)) (b : ℕ) (w : Vec T A) → b < length bs → w ≡ get_or bs b w → length w.items ≡ 0 → cs ≡ remove bs b → flat cs ≡ flat bs
  block_removed bs cs b w lt is none new = ap flat new ∙ without_empty (λ (b : Vec T A). b.items) bs b w lt (ap (λ (u : Vec T A). u.items) (sym is) ∙ no_items w.items none)

  -- ---- edges
  module _ (answers : T → Bool → Type 0) (bs : List (Vec T A)) (none_empty : NoneEmpty bs) where
    -- where the first item fails, or there is none
    pub edge_at_first : ((b : Vec T A) (d : T) → 0 < length bs → answers (get_or (get_or bs 0 b).items 0 d) false) → IsEdge answers (flat bs) 0
    edge_at_first fails = record { within = omega arith; before = λ d lt. absurd (omega arith); after = λ d lt. first bs none_empty fails d lt }
      where
        first : (bs : List (Vec T A)) → NoneEmpty bs → ((b : Vec T A) (d : T) → 0 < length bs → answers (get_or (get_or bs 0 b).items 0 d) false) → (d : T) → 0 < length (flat bs) → answers (get_or (flat bs) 0 d) false
        first [] none fails d lt = absurd (omega arith)
        first (b ∷ bs) none fails d lt = subst (λ x. answers x false) (sym (get_or-flat_map (λ (b : Vec T A). b.items) (b ∷ bs) 0 0 b d (omega arith) (none 0 b (omega arith) (omega arith)))) (fails b d (omega arith))

    module _ (i n r : ℕ) (v : Vec T A) (ys : List T) (lt : i < length bs) (is : v ≡ get_or bs i v) (cut : ys ≡ drop 1 v.items) (at : length (flat (take i bs)) + (1 + r) ≡ n)
        (passes : (b : Vec T A) (d : T) → answers (get_or (get_or bs i b).items 0 d) true)
        (fails : (b : Vec T A) (d : T) → suc i < length bs → answers (get_or (get_or bs (suc i) b).items 0 d) false)
        (edge : IsEdge answers ys r) where
      long : 0 < length v.items
      long = subst (λ (u : Vec T A). 0 < length u.items) (sym is) (none_empty i v (omega arith) lt)

      rest_long : length ys + 1 ≡ length v.items
      rest_long = let e : length ys ≡ length v.items - 1 = ap length cut ∙ length-drop 1 v.items in omega (arith, e, long)

      total : length (flat bs) ≡ length (flat (take i bs)) + (length v.items + length (flat (drop (suc i) bs)))
      total =
          ap length (parted (λ (b : Vec T A). b.items) bs i v lt) ∙ length-append (flat (take i bs)) ((get_or bs i v).items ++ flat (drop (suc i) bs))
          ∙ ap (λ k. length (flat (take i bs)) + k) (length-append (get_or bs i v).items (flat (drop (suc i) bs)))
          ∙ ap (λ (u : Vec T A). length (flat (take i bs)) + (length u.items + length (flat (drop (suc i) bs)))) (sym is)

      in_block : (k : ℕ) (d : T) → k < length v.items → get_or (flat bs) (length (flat (take i bs)) + k) d ≡ get_or v.items k d
      in_block k d lk = get_or-flat_map (λ (b : Vec T A). b.items) bs i k v d lt (subst (λ (u : Vec T A). k < length u.items) is lk) ∙ ap (λ (u : Vec T A). get_or u.items k d) (sym is)

      in_rest : (k : ℕ) (d : T) → get_or v.items (1 + k) d ≡ get_or ys k d
      in_rest k d = sym (ap (λ l. get_or l k d) cut ∙ get_or-drop 1 v.items k d)

      first_passes : (d : T) → answers (get_or v.items 0 d) true
      first_passes d = subst (λ (u : Vec T A). answers (get_or u.items 0 d) true) (sym is) (passes v d)

      passes_at : (r : ℕ) → r ≤ length ys → ((d : T) → 0 < r → answers (get_or ys (r - 1) d) true) → (d : T) → answers (get_or v.items r d) true
      passes_at zero le before d = first_passes d
      passes_at (suc r) le before d =
          let e : suc r - 1 ≡ r = omega arith in
          let here : answers (get_or ys r d) true = subst (λ k. answers (get_or ys k d) true) e (before d (omega arith)) in
          let one : 1 + r ≡ suc r = omega arith in
          subst (λ k. answers (get_or v.items k d) true) one (subst (λ x. answers x true) (sym (in_rest r d)) here)

      fails_after : (d : T) → n < length (flat bs) → answers (get_or (flat bs) n d) false
      fails_after d ln = elim (cases_lt (1 + r) (length v.items)) as (λ _. answers (get_or (flat bs) n d) false) [
        | inl inside ↦
            let here : get_or (flat bs) n d ≡ get_or ys r d = ap (λ n. get_or (flat bs) n d) (sym at) ∙ in_block (1 + r) d inside ∙ in_rest r d in
            subst (λ x. answers x false) (sym here) (edge.after d (omega (arith, rest_long)))
        | inr past ↦
            let rest_is : 0 < length (flat (drop (suc i) bs)) = omega (arith, total, edge.within, rest_long) in
            let more : suc i < length bs = has_more (suc i) rest_is in
            let full : length (flat (take (suc i) bs)) ≡ n = taken_more ∙ omega (arith, edge.within, rest_long) in
            let there : get_or (flat bs) n d ≡ get_or (get_or bs (suc i) v).items 0 d =
            ap (λ n. get_or (flat bs) n d) (let e : n ≡ length (flat (take (suc i) bs)) + 0 = omega (arith, full) in e) ∙ get_or-flat_map (λ (b : Vec T A). b.items) bs (suc i) 0 v d more (none_empty (suc i) v (omega arith) more) in
            subst (λ x. answers x false) (sym there) (fails v d more)
      ]
        where
          has_more : (k : ℕ) → 0 < length (flat (drop k bs)) → k < length bs
          has_more k pos = go bs k pos
            where
              go : (cs : List (Vec T A)) (k : ℕ) → 0 < length (flat (drop k cs)) → k < length cs
              go [] zero pos = absurd (omega arith)
              go [] (suc k) pos = absurd (omega arith)
              go (c ∷ cs) zero pos = omega arith
              go (c ∷ cs) (suc k) pos = let h = go cs k pos in omega (arith, h)

          taken_more : length (flat (take (suc i) bs)) ≡ length (flat (take i bs)) + length v.items
          taken_more = upto_next bs i v lt ∙ ap (λ (u : Vec T A). length (flat (take i bs)) + length u.items) (sym is)

      pub edge_in_block : IsEdge answers (flat bs) n
      edge_in_block = record {
        within = omega (arith, total, edge.within, rest_long);
        before = λ d ln.
            let here : get_or (flat bs) (n - 1) d ≡ get_or v.items r d = ap (λ n. get_or (flat bs) n d) (let e : n - 1 ≡ length (flat (take i bs)) + r = omega arith in e) ∙ in_block r d (omega (arith, edge.within, rest_long)) in
            subst (λ x. answers x true) (sym here) (passes_at r edge.within edge.before d);
        after = fails_after;
      }

-- ---- what the functions answer
module _ {T A : Type 0} (bs cs : List (Vec T A)) (same : cs ≡ bs) (now : List T) (view : flat bs ≡ now) where
  at_in : (n b j : ℕ) → IsAt cs n b j → IsAt bs n b j
  at_in n b j at = subst (λ (cs : List (Vec T A)). IsAt cs n b j) same at

  pub get_answer : (n b j : ℕ) → IsAt cs n b j → (v : Vec T A) → v ≡ get_or bs b v → (x : T) → x ≡ get_or v.items j x → Some x ≡ slice_get now n
  get_answer n b j at v is x read =
      ap Some read ∙ sym (slice_get-get_or v.items j x (subst (λ (u : Vec T A). j < length u.items) (sym is) ((at_in n b j at).offset_in v)))
      ∙ sym (item_got bs n b j (at_in n b j at) v is) ∙ ap (λ l. slice_get l n) view

  pub iter_answer : (n b j : ℕ) → IsAt cs n b j → (v : Vec T A) → v ≡ get_or bs b v → (s : List T) → s ≡ v.items → (ds : List (Vec T A)) → ds ≡ bs → (r : List T) → r ≡ take (length s - j) (drop j s) ++ flat (take (length ds - (b + 1)) (drop (b + 1) ds)) → r ≡ drop n now
  iter_answer n b j at v is s sv ds dsame r new =
      let one : b + 1 ≡ suc b = omega arith in
      new ∙ ap (λ l. l ++ flat (take (length ds - (b + 1)) (drop (b + 1) ds))) (take_rest s j)
      ∙ ap (λ l. drop j s ++ flat l) (take_rest ds (b + 1))
      ∙ ap (λ l. drop j l ++ flat (drop (b + 1) ds)) sv
      ∙ ap (λ l. drop j v.items ++ flat (drop (b + 1) l)) dsame
      ∙ ap (λ k. drop j v.items ++ flat (drop k bs)) one
      ∙ sym (rest_is bs n b j (at_in n b j at) v is) ∙ ap (λ l. drop n l) view

  module _ (answers : T → Bool → Type 0) (none_empty : NoneEmpty bs) (end : ℕ)
      (before : (b : Vec T A) (d : T) → 0 < end → answers (get_or (get_or cs (end - 1) b).items 0 d) true)
      (after : (b : Vec T A) (d : T) → end < length cs → answers (get_or (get_or cs end b).items 0 d) false) where
    before_in : (b : Vec T A) (d : T) → 0 < end → answers (get_or (get_or bs (end - 1) b).items 0 d) true
    before_in = subst (λ cs. (b : Vec T A) (d : T) → 0 < end → answers (get_or (get_or cs (end - 1) b).items 0 d) true) same before

    after_in : (b : Vec T A) (d : T) → end < length bs → answers (get_or (get_or bs end b).items 0 d) false
    after_in = subst (λ cs. (b : Vec T A) (d : T) → end < length cs → answers (get_or (get_or cs end b).items 0 d) false) same after

    pub edge_at_start : end ≡ 0 → IsEdge answers now 0
    edge_at_start e = subst (λ l. IsEdge answers l 0) view (edge_at_first answers bs none_empty (subst (λ k. (b : Vec T A) (d : T) → k < length bs → answers (get_or (get_or bs k b).items 0 d) false) e after_in))

    module _ (pos : 0 < end) (bound : end ≤ length bs) (v : Vec T A) (is : v ≡ get_or bs (end - 1) v) (ys : List T) (cut : ys ≡ drop 1 v.items) (r : ℕ) (edge : IsEdge answers ys r) where
      next_is : suc (end - 1) ≡ end
      next_is = omega arith

      pub edge_answer : (n : ℕ) → length (flat (take (end - 1) bs)) + (1 + r) ≡ n → IsEdge answers now n
      edge_answer n at =
          subst (λ l. IsEdge answers l n) view (edge_in_block answers bs none_empty (end - 1) n r v ys (omega arith) is cut at (λ b d. before_in b d pos)
          (subst (λ k. (b : Vec T A) (d : T) → k < length bs → answers (get_or (get_or bs k b).items 0 d) false) (sym next_is) after_in) edge)

      pub fits : 1 + r ≤ length v.items
      fits =
          let e : length ys ≡ length v.items - 1 = ap length cut ∙ length-drop 1 v.items in
          let long : 0 < length v.items = subst (λ (u : Vec T A). 0 < length u.items) (sym is) (none_empty (end - 1) v (omega arith) (omega arith)) in
          omega (arith, e, long, edge.within)
