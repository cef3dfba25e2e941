-- An item that was put in where it goes, and then taken out where it stood.
use Rattle.std.proofs.Common.{◌≡◌, inl, inr, ℕ, ◌+◌, ◌<◌, ◌≤◌, List, Vec, length, get_or, set, take, sym, ap, subst, ◌∙◌, arith}
use Rattle.std.specs.List.{insert, remove}
use Rattle.std.proofs.lemmas.Bool.{cases_lt}
use Rattle.std.proofs.lemmas.List.Edits.{length-insert}
use Rattle.canvas_blocks.specs.Blocks.{flat, index_of, moved, IsIn}
use Rattle.canvas_blocks.proofs.Placed.{at_index, item_inserted}
use Rattle.canvas_blocks.proofs.Shifted.{moved_above, moved_below}
use Rattle.canvas_blocks.proofs.Sized.{before_block, index_within, later_set, start_set}

module _ {T A : Type 0} (bs : List (Vec T A)) (from to : ℕ × ℕ) (v w : Vec T A) (x : T) (from_in : IsIn bs from.0 from.1) (to_in : IsIn bs to.0 to.1) (is : v ≡ get_or bs to.0 v) (new : w.items ≡ insert v.items to.1 x) where
  abbrev pub i : ℕ
  i = index_of bs from.0 from.1

  abbrev pub j : ℕ
  j = index_of bs to.0 to.1

  put_in : flat (set bs to.0 w) ≡ insert (flat bs) j x
  put_in = item_inserted bs j to.0 to.1 (at_index bs to.0 to.1 to_in) v is w x new

  moved_up : (n : ℕ) → j ≤ i → n ≡ i + 1 → remove (flat (set bs to.0 w)) n ≡ moved (flat bs) i j x
  moved_up n le at = ap (λ l. remove l n) put_in ∙ ap (remove (insert (flat bs) j x)) at ∙ moved_above (flat bs) i j x le (index_within bs from.0 from.1 from_in)

  moved_down : (n : ℕ) → i < j → n ≡ i → remove (flat (set bs to.0 w)) n ≡ moved (flat bs) i j x
  moved_down n lt at = ap (λ l. remove l n) put_in ∙ ap (remove (insert (flat bs) j x)) at ∙ moved_below (flat bs) i j x lt (index_within bs to.0 to.1 to_in)

  long : length w.items ≡ length v.items + 1
  long = ap length new ∙ length-insert v.items to.1 x (let inside = subst (λ (u : Vec T A). to.1 < length u.items) (sym is) (to_in.offset_in v) in omega (arith, inside))

  before : from.0 ≤ to.0 → length (flat (take from.0 (set bs to.0 w))) ≡ length (flat (take from.0 bs))
  before le = ap (λ l. length (flat l)) (start_set bs to.0 from.0 w le)

  -- it stood in the same block, not before
  pub moved_in_block : (o : ℕ) → to.0 ≡ from.0 → to.1 ≤ from.1 → o ≡ from.1 + 1 → remove (flat (set bs to.0 w)) (index_of (set bs to.0 w) from.0 o) ≡ moved (flat bs) i j x
  moved_in_block o same le at =
      let start = before (omega (arith, same)) in
      let both : length (flat (take to.0 bs)) ≡ length (flat (take from.0 bs)) = ap (λ k. length (flat (take k bs))) same in
      moved_up (index_of (set bs to.0 w) from.0 o) (omega (arith, both, le)) (omega (arith, start, at))

  -- it stood in the same block before, or in another one
  pub moved_between : (o : ℕ) → (to.0 ≡ from.0 → from.1 < to.1) → o ≡ from.1 → remove (flat (set bs to.0 w)) (index_of (set bs to.0 w) from.0 o) ≡ moved (flat bs) i j x
  moved_between o not_after at = elim (cases_lt from.0 to.0) as (λ _. remove (flat (set bs to.0 w)) (index_of (set bs to.0 w) from.0 o) ≡ moved (flat bs) i j x) [
    | inl lt ↦
        let start = before (omega arith) in
        let lower = before_block bs from.0 from.1 to.0 from_in lt in
        moved_down (index_of (set bs to.0 w) from.0 o) (omega (arith, lower)) (omega (arith, start, at))
    | inr ge ↦ elim (cases_lt to.0 from.0) as (λ _. remove (flat (set bs to.0 w)) (index_of (set bs to.0 w) from.0 o) ≡ moved (flat bs) i j x) [
      | inl lt ↦
          let start = later_set bs to.0 from.0 v w lt to_in.block_in is long in
          let lower = before_block bs to.0 to.1 from.0 to_in lt in
          moved_up (index_of (set bs to.0 w) from.0 o) (omega (arith, lower)) (omega (arith, start, at))
      | inr le ↦
          let same : to.0 ≡ from.0 = omega arith in
          let start = before (omega arith) in
          let both : length (flat (take to.0 bs)) ≡ length (flat (take from.0 bs)) = ap (λ k. length (flat (take k bs))) same in
          let lower = not_after same in
          moved_down (index_of (set bs to.0 w) from.0 o) (omega (arith, both, lower)) (omega (arith, start, at))
    ]
  ]
