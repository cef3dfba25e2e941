-- A gap that moves by one place, where a list of blocks keeps its sizes.
use Rattle.std.proofs.Common.{◌≡◌, ℕ, ◌+◌, ◌<◌, List, Vec, length, get_or, set, Option, sym, ap, ◌∙◌, arith}
use Rattle.std.specs.List.{insert, remove}
use Rattle.canvas_blocks.specs.Blocks.{flat, gap_below, gap_from, goes_to, index_at, index_of, moved, sizes, IsIn, IsPlace}
use Rattle.canvas_blocks.proofs.Shifted.{gap_at, gap_filled, moved_is, step_down, step_up}
use Rattle.canvas_blocks.proofs.Sized.{index_within, same_at, same_in, same_index, same_place}

-- the blocks at first, those now, and as a slice
module _ {T A : Type 0} (bs cs ss : List (Vec T A)) (same : sizes cs ≡ sizes bs) (slice : ss ≡ cs) where
  sizes_slice : sizes ss ≡ sizes bs
  sizes_slice = ap (λ l. sizes l) slice ∙ same

  pub there_now : (b o : ℕ) → IsIn bs b o → IsIn ss b o
  there_now b o = same_in bs ss b o (sym sizes_slice)

  pub place_now : (to : Option (ℕ × ℕ)) → IsPlace bs to → IsPlace ss to
  place_now to = same_place bs ss to (sym sizes_slice)

  pub was_there : (b o : ℕ) → IsIn ss b o → IsIn bs b o
  was_there b o = same_in ss bs b o sizes_slice

  pub index_now : (b o : ℕ) → index_of ss b o ≡ index_of bs b o
  index_now b o = same_index ss bs b o sizes_slice

  pub end_now : (to : Option (ℕ × ℕ)) → index_at ss to ≡ index_at bs to
  end_now to = same_at ss bs to sizes_slice

  -- the item at `next` was put at `at`
  module _ (ds : List (Vec T A)) (at next : ℕ × ℕ) (new : (d : T) → flat ds ≡ set (flat cs) (index_of cs at.0 at.1) (get_or (flat cs) (index_of cs next.0 next.1) d)) where
    put : (d : T) → flat ds ≡ set (flat cs) (index_of bs at.0 at.1) (get_or (flat cs) (index_of bs next.0 next.1) d)
    put d =
        new d ∙ ap (λ k. set (flat cs) k (get_or (flat cs) (index_of cs next.0 next.1) d)) (same_index cs bs at.0 at.1 same)
        ∙ ap (λ k. set (flat cs) (index_of bs at.0 at.1) (get_or (flat cs) k d)) (same_index cs bs next.0 next.1 same)

    inside : (b o : ℕ) → IsIn bs b o → index_of bs b o < length (flat cs)
    inside b o there =
        let within = index_within cs b o (same_in bs cs b o (sym same) there) in
        let index = same_index cs bs b o same in
        omega (arith, within, index)

    pub came_up : IsIn bs next.0 next.1 → index_of bs next.0 next.1 ≡ index_of bs at.0 at.1 + 1 → remove (flat ds) (index_of bs next.0 next.1) ≡ remove (flat cs) (index_of bs at.0 at.1)
    came_up there is = step_up (flat cs) (flat ds) (index_of bs at.0 at.1) (index_of bs next.0 next.1) (omega (arith, is)) (inside next.0 next.1 there) put

    pub came_down : IsIn bs at.0 at.1 → index_of bs next.0 next.1 + 1 ≡ index_of bs at.0 at.1 → remove (flat ds) (index_of bs next.0 next.1) ≡ remove (flat cs) (index_of bs at.0 at.1)
    came_down there is = step_down (flat cs) (flat ds) (index_of bs at.0 at.1) (index_of bs next.0 next.1) (omega (arith, is)) (inside at.0 at.1 there) put

-- a gap that came up, then down, and was filled
module _ {T A : Type 0} (bs cs ds rs : List (Vec T A)) (from up down : ℕ × ℕ) (to : Option (ℕ × ℕ)) (x : T) where
  pub shifted :
      sizes cs ≡ sizes bs → index_of bs up.0 up.1 ≡ gap_below (index_of bs from.0 from.1) (index_at bs to) → remove (flat cs) (index_of bs up.0 up.1) ≡ remove (flat bs) (index_of bs from.0 from.1)
      → sizes ds ≡ sizes cs → index_of cs down.0 down.1 ≡ gap_from (index_of cs up.0 up.1) (index_at cs to) → remove (flat ds) (index_of cs down.0 down.1) ≡ remove (flat cs) (index_of cs up.0 up.1)
      → flat rs ≡ set (flat ds) (index_of ds down.0 down.1) x → IsIn bs from.0 from.1 → IsIn ds down.0 down.1
      → flat rs ≡ moved (flat bs) (index_of bs from.0 from.1) (index_at bs to) x
  shifted same up_at up_is same_down down_at down_is filled from_in down_in =
      let i = index_of bs from.0 from.1 in
      let j = index_at bs to in
      let k = index_of ds down.0 down.1 in
      let rest : remove (flat ds) k ≡ remove (flat bs) i = ap (remove (flat ds)) (same_index ds cs down.0 down.1 same_down) ∙ down_is ∙ ap (remove (flat cs)) (same_index cs bs up.0 up.1 same) ∙ up_is in
      let at : k ≡ goes_to i j =
      same_index ds cs down.0 down.1 same_down ∙ down_at ∙ ap (λ n. gap_from n (index_at cs to)) (same_index cs bs up.0 up.1 same)
      ∙ ap (λ n. gap_from (index_of bs up.0 up.1) n) (same_at cs bs to same) ∙ ap (λ n. gap_from n j) up_at ∙ gap_at i j in
      filled ∙ gap_filled (flat ds) k x (index_within ds down.0 down.1 down_in) ∙ ap (λ l. insert l k x) rest ∙ moved_is (flat bs) i j k x (index_within bs from.0 from.1 from_in) at

-- where it all stands as it was
pub moved_same : {T A : Type 0} (bs cs : List (Vec T A)) (b o : ℕ) (to now : Option (ℕ × ℕ)) (x : T) → sizes cs ≡ sizes bs → flat cs ≡ flat bs → to ≡ now → moved (flat cs) (index_of cs b o) (index_at cs now) x ≡ moved (flat bs) (index_of bs b o) (index_at bs to) x
moved_same bs cs b o to now x same items is =
    ap (λ l. moved l (index_of cs b o) (index_at cs now) x) items ∙ ap (λ i. moved (flat bs) i (index_at cs now) x) (same_index cs bs b o same)
    ∙ ap (λ j. moved (flat bs) (index_of bs b o) j x) (same_at cs bs now same) ∙ ap (λ to. moved (flat bs) (index_of bs b o) (index_at bs to) x) (sym is)
