-- What stands where a search through items in order ends.
use Rattle.std.proofs.Common.{◌≡◌, ℕ, suc, zero, ◌-◌, ◌<◌, ◌≤◌, true, false, List, [], ◌∷◌, length, get_or, Some, None, Ok, Err, T, refl, sym, ap, subst, ◌∙◌, arith}
use Rattle.std.specs.List.{AllWithin, slice_get}
use Rattle.std.specs.Cmp.{IsTotalOrder}
use Rattle.std.specs.declared.cmp.Ordering.{Ordering}
use Rattle.std.specs.declared.cmp.Ordering.TheVariants.{Less, Equal, Greater}
use Rattle.std.specs.Ordering.{is_lt, ordering_index}
use Rattle.std.specs.FinMap.{find, is_sorted}
use Rattle.canvas_blocks.specs.Blocks.{IsEdge}
use Rattle.canvas_doc.specs.Sorted.{IsPairAt, IsGapAt}
use Rattle.canvas_doc.proofs.Searched.{rises, searched}

pub lowest : (o : Ordering) → ordering_index o ≤ 0 → o ≡ Less
lowest Less le = refl
lowest Equal le = absurd (omega arith)
lowest Greater le = absurd (omega arith)

pub highest : (o : Ordering) → 2 ≤ ordering_index o → o ≡ Greater
highest Less le = absurd (omega arith)
highest Equal le = absurd (omega arith)
highest Greater le = refl

pub is_less : (o : Ordering) → true ≡ is_lt o → o ≡ Less
is_less Less e = refl
is_less Equal e = absurd (let f : true ≡ false = e in cc)
is_less Greater e = absurd (let f : true ≡ false = e in cc)

pub is_more : (o : Ordering) → false ≡ is_lt o → (o ≡ Equal → ⊥) → o ≡ Greater
is_more Less e ne = absurd (let f : false ≡ true = e in cc)
is_more Equal e ne = absurd (ne refl)
is_more Greater e ne = refl

-- the item that is read
pub got_some : {X : Type 0} (xs : List X) (i : ℕ) (x : X) → Some x ≡ slice_get xs i → (i < length xs) × ((d : X) → get_or xs i d ≡ x)
got_some [] i x e = absurd (let f : Some x ≡ None = e in cc)
got_some (y ∷ xs) zero x e = (omega arith, λ d. let f : x ≡ y = cc in sym f)
got_some (y ∷ xs) (suc i) x e = let rest = got_some xs i x e in (omega (arith, rest.0), rest.1)

pub got_none : {X : Type 0} (xs : List X) (i : ℕ) → None ≡ slice_get xs i → length xs ≤ i
got_none [] i e = omega arith
got_none (y ∷ xs) zero e = absurd (let f : None ≡ Some y = e in cc)
got_none (y ∷ xs) (suc i) e = let rest = got_none xs i e in omega (arith, rest)

module _ {K X : Type 0} {R : K → K → Ordering} (o : IsTotalOrder R) (es : List (K × X)) (sorted : T (is_sorted R es)) (k : K) (i : ℕ) (edge : IsEdge (λ e b. b ≡ is_lt (R e.0 k)) es i) where
  less_below : AllWithin (λ e. R e.0 k ≡ Less) es 0 i
  less_below j d low lt =
      let last : R (get_or es (i - 1) d).0 k ≡ Less = is_less _ (edge.before d (omega arith)) in
      let index : ordering_index (R (get_or es (i - 1) d).0 k) ≡ 0 = ap ordering_index last in
      let rise = rises o es sorted k j (i - 1) d (omega arith) (omega (arith, edge.within)) in
      lowest _ (omega (arith, index, rise))

  module _ (apart : (d : K × X) → i < length es → R (get_or es i d).0 k ≡ Equal → ⊥) where
    more_above : AllWithin (λ e. R e.0 k ≡ Greater) es i (length es)
    more_above j d low lt =
        let first : R (get_or es i d).0 k ≡ Greater = is_more _ (edge.after d (omega arith)) (apart d (omega arith)) in
        let index : ordering_index (R (get_or es i d).0 k) ≡ 2 = ap ordering_index first in
        let rise = rises o es sorted k i j d low lt in
        highest _ (omega (arith, index, rise))

    pub gap_here : IsGapAt R es k i
    gap_here = (searched o es sorted k (Err i) edge.within (λ _. (less_below, more_above))).1

  pub gap_at_end : length es ≤ i → IsGapAt R es k i
  gap_at_end le = gap_here (λ d lt. absurd (omega arith))

  pub gap_before : (e : K × X) → Some e ≡ slice_get es i → (R e.0 k ≡ Equal → ⊥) → IsGapAt R es k i
  gap_before e got ne = gap_here (λ d lt tied. ne (subst (λ (x : K × X). R x.0 k ≡ Equal) ((got_some es i e got).1 d) tied))

  pub pair_here : (e : K × X) → Some e ≡ slice_get es i → R e.0 k ≡ Equal → IsPairAt R es k i
  pair_here e got tied =
      let there = got_some es i e got in
      (searched o es sorted k (Ok i) there.0 (λ d. subst (λ (x : K × X). R x.0 k ≡ Equal) (sym (there.1 d)) tied)).0

  -- what a look-up answers
  pub found_at : (e : K × X) → Some e ≡ slice_get es i → R e.0 k ≡ Equal → Some e.1 ≡ find R k es
  found_at e got tied =
      let there = got_some es i e got in
      ap (λ (x : K × X). Some x.1) (sym (there.1 e)) ∙ sym ((pair_here e got tied).found e)

  pub not_found_at : (e : K × X) → Some e ≡ slice_get es i → (R e.0 k ≡ Equal → ⊥) → None ≡ find R k es
  not_found_at e got ne = sym (gap_before e got ne).absent

  pub found_none : None ≡ slice_get es i → None ≡ find R k es
  found_none got = sym (gap_at_end (got_none es i got)).absent
