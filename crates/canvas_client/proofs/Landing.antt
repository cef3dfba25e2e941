-- Where an object lands at a target.
use Rattle.std.proofs.Common.{◌≡◌, List, ℕ, length, Option, Some, None, IfSome, IfNone, refl, sym, ap, subst, ◌∙◌, IsSomeAnd}
use Rattle.std.specs.Ordering.{nat_cmp, ordering_reverse}
use Rattle.std.specs.Cmp.Lexicographic.{slice_cmp, nat_list_cmp_total}
use Rattle.std.specs.declared.cmp.Ordering.TheVariants.{Less, Equal, Greater}
use Rattle.std.proofs.lemmas.Map.Lookups.{exact_bytes}
use Rattle.std.specs.Borrow.{Bor}
use Rattle.std.specs.Option.{option_copied}
use Rattle.canvas_model.specs.declared.ObjId.{ObjId}
use Rattle.canvas_model.specs.Document.{Doc, Place, Pos}
use Rattle.canvas_model.specs.Order.{IsBefore}
use Rattle.canvas_model.specs.Middle.{LiesBetween}
use Rattle.canvas_model.specs.Sibling.{IsSibling, IsNext}
use Rattle.canvas_model.specs.Local.{Target, IsPosAfter, Lands}

-- the position of the child that is named, which is one
pub comes_after : (view : Doc) (parent except q : ObjId) (after : Option ObjId) (r : Option (Bor Pos)) → after ≡ Some q → (IsSomeAnd after (λ a. (pos : List ℕ) → IsSibling view parent except a pos → ⊥) → ⊥)
    → IfSome r (λ pos. IsSibling view parent except q pos.now) → IfNone r ((pos : Pos) → IsSibling view parent except q pos → ⊥) → IsPosAfter view parent except after (option_copied r)
comes_after view parent except q after (Some pos) is has some none = subst (λ a. IsPosAfter view parent except a (Some pos.now)) (sym is) (pos.now, refl, some)
comes_after view parent except q after None is has some none = absurd (has (subst (λ a. IsSomeAnd a (λ a. (pos : List ℕ) → IsSibling view parent except a pos → ⊥)) (sym is) none))

-- positions of which neither is before the other are one
neither : (a b : Pos) → (IsBefore a b → ⊥) → (IsBefore b a → ⊥) → a ≡ b
neither a b p q = elim (slice_cmp nat_cmp a b) as (λ r. slice_cmp nat_cmp a b ≡ r → a ≡ b) [
  | Less ↦ λ e. absurd (p e)
  | Equal ↦ λ e. exact_bytes a b e
  | Greater ↦ λ e. absurd (q (nat_list_cmp_total.antisymm b a ∙ ap ordering_reverse e))
] refl

module _ (view : Doc) (parent except : ObjId) where
  -- a child has one position
  same_pos : (q : ObjId) (a b : Pos) → IsSibling view parent except q a → IsSibling view parent except q b → a ≡ b
  same_pos q a b (ne, p) (ne2, p2) =
      let e : Some (record { parent = parent; pos = a }) ≡ Some (record { parent = parent; pos = b }) = sym p ∙ p2 in
      let same : record { parent = parent; pos = a } ≡ record { parent = parent; pos = b } = cc in
      ap (λ (x : Place). x.pos) same

  same_low : (after : Option ObjId) (a b : Option Pos) → IsPosAfter view parent except after a → IsPosAfter view parent except after b → a ≡ b
  same_low None a b p q = p ∙ sym q
  same_low (Some o) a b (x, is, sibling) (y, is2, sibling2) = is ∙ ap Some (same_pos o x y sibling sibling2) ∙ sym is2

  -- there is one next position
  same_next : (low a b : Option Pos) → IsNext view parent except low a → IsNext view parent except low b → a ≡ b
  same_next low None None p q = refl
  same_next low None (Some b) none next = absurd (none (next.0).0 b (next.0).1 next.1)
  same_next low (Some a) None next none = absurd (none (next.0).0 a (next.0).1 next.1)
  same_next low (Some a) (Some b) p q = ap Some (neither a b (q.2 (p.0).0 a (p.0).1 p.1) (p.2 (q.0).0 b (q.0).1 q.1))

-- where there is a position there is room
pub lands_once : (view : Doc) (except : ObjId) (target : Target) (pos : Pos) → Lands view except target (Some pos) → Lands view except target None → ⊥
lands_once view except target pos (low, high, after, next, middle) (low2, high2, after2, next2, shut) =
    let l : low2 ≡ low = same_low view target.parent except target.after low2 low after2 after in
    let next_there : IsNext view target.parent except low high2 = subst (λ x. IsNext view target.parent except x high2) l next2 in
    let h : high2 ≡ high = same_next view target.parent except low high2 high next_there next in
    shut (length pos) middle.short middle.least
    (subst (λ x. LiesBetween x high2 (length pos) middle.least) (sym l) (subst (λ y. LiesBetween low y (length pos) middle.least) (sym h) middle.is_least.holds))
