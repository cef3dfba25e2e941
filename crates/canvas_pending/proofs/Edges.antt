-- What stands where a search through tallies in order ends.
use Rattle.std.proofs.Common.{◌≡◌, ℕ, ◌-◌, ◌<◌, Bool, List, length, get_or, Option, Some, None, Ok, Err, T, refl, sym, ap, subst, ◌∙◌, arith}
use Rattle.std.specs.List.{AllWithin, slice_get}
use Rattle.std.specs.Option.{option_map_or}
use Rattle.std.specs.Prelude.{slice_set}
use Rattle.std.specs.Cmp.{IsTotalOrder}
use Rattle.std.specs.declared.cmp.Ordering.{Ordering}
use Rattle.std.specs.declared.cmp.Ordering.TheVariants.{Less, Equal, Greater}
use Rattle.std.specs.Ordering.{is_lt, ordering_index}
use Rattle.std.specs.FinMap.{find, is_sorted, put}
use Rattle.std.proofs.lemmas.Option.{get_or_from_slice_get, slice_get_within}
use Rattle.canvas_blocks.specs.Blocks.{IsEdge, with_value}
use Rattle.canvas_doc.specs.Sorted.{IsPairAt, IsGapAt}
use Rattle.canvas_doc.proofs.Searched.{rises, searched, set_puts}
use Rattle.canvas_doc.proofs.Edges.{lowest, highest, is_less, is_more, got_none}

-- an edge for a test that is whether a tally's key is less
pub edge_by : {K X : Type 0} (R : K → K → Ordering) (es : List (K × X)) (k : K) {answers : K × X → Bool → Type 0} {i : ℕ} → IsEdge answers es i → ((e : K × X) (b : Bool) → answers e b → b ≡ is_lt (R e.0 k)) → IsEdge (λ e b. b ≡ is_lt (R e.0 k)) es i
edge_by R es k at test = record { within = at.within; before = λ d lt. test _ _ (at.before d lt); after = λ d lt. test _ _ (at.after d lt) }

module _ {K X : Type 0} {R : K → K → Ordering} (o : IsTotalOrder R) (es : List (K × X)) (sorted : T (is_sorted R es)) (k : K) (i : ℕ) (edge : IsEdge (λ e b. b ≡ is_lt (R e.0 k)) es i) where
  less_below : AllWithin (λ e. R e.0 k ≡ Less) es 0 i
  less_below j d low lt =
      let index = ap ordering_index (is_less _ (edge.before d (omega arith))) in
      let rise = rises o es sorted k j (i - 1) d (omega arith) (omega (arith, edge.within)) in
      lowest _ (omega (arith, index, rise))

  more_above : ((d : K × X) → i < length es → R (get_or es i d).0 k ≡ Equal → ⊥) → AllWithin (λ e. R e.0 k ≡ Greater) es i (length es)
  more_above apart j d low lt =
      let index = ap ordering_index (is_more _ (edge.after d (omega arith)) (apart d (omega arith))) in
      let rise = rises o es sorted k i j d low lt in
      highest _ (omega (arith, index, rise))

  gap_here : ((d : K × X) → i < length es → R (get_or es i d).0 k ≡ Equal → ⊥) → IsGapAt R es k i
  gap_here apart = (searched o es sorted k (Err i) edge.within (λ _. (less_below, more_above apart))).1

  -- no tally is there, or that of another key
  pub gap_at_end : None ≡ slice_get es i → IsGapAt R es k i
  gap_at_end none = let past = got_none es i none in gap_here (λ d lt. absurd (omega arith))

  pub gap_before : (e : K × X) → slice_get es i ≡ Some e → (R e.0 k ≡ Equal → ⊥) → IsGapAt R es k i
  gap_before e got other = gap_here (λ d lt tied. other (subst (λ (x : K × X). R x.0 k ≡ Equal) (get_or_from_slice_get es i e d got) tied))

  -- the tally of the key is there
  pub pair_here : (e : K × X) → slice_get es i ≡ Some e → R e.0 k ≡ Equal → IsPairAt R es k i
  pair_here e got tied =
      (searched o es sorted k (Ok i) (slice_get_within es i e got) (λ d. subst (λ (x : K × X). R x.0 k ≡ Equal) (sym (get_or_from_slice_get es i e d got)) tied)).0

  pub found_here : (e : K × X) → slice_get es i ≡ Some e → R e.0 k ≡ Equal → find R k es ≡ Some e.1
  found_here e got tied = (pair_here e got tied).found e ∙ ap (λ (x : K × X). Some x.1) (get_or_from_slice_get es i e e got)

  -- where the key has a count, its tally is there
  module _ (n : X) (found : find R k es ≡ Some n) where
    there : (o : Option (K × X)) → slice_get es i ≡ o → (e : K × X) × (slice_get es i ≡ Some e) × (R e.0 k ≡ Equal)
    there None none = let gap = gap_at_end (sym none) in absurd (let f : Some n ≡ None = sym found ∙ gap.absent in cc)
    there (Some e) got = (e, got, tied (R e.0 k) refl)
      where
        apart : (r : Ordering) → R e.0 k ≡ r → (r ≡ Equal → ⊥) → ⊥
        apart r is other = let gap = gap_before e got (λ tied. other (sym is ∙ tied)) in let f : Some n ≡ None = sym found ∙ gap.absent in cc

        tied : (r : Ordering) → R e.0 k ≡ r → R e.0 k ≡ Equal
        tied Less is = absurd (apart Less is (λ same. cc))
        tied Equal is = is
        tied Greater is = absurd (apart Greater is (λ same. cc))

    pub pair_there : IsPairAt R es k i
    pair_there = let at = there (slice_get es i) refl in pair_here at.0 at.1 at.2

    pub value_put : (x : X) → with_value es i x ≡ put R k x es
    value_put x =
        let at = there (slice_get es i) refl in
        ap (λ o. option_map_or (λ (e : K × X). slice_set es i (e.0, x)) o es) at.1
        ∙ ap (λ (e : K × X). slice_set es i (e.0, x)) (sym (get_or_from_slice_get es i at.0 at.0 at.1))
        ∙ set_puts o es sorted k i pair_there.in_range pair_there.tied at.0 x

  -- where it has none, it would go there
  pub gap_there : find R k es ≡ None → IsGapAt R es k i
  gap_there absent = by (slice_get es i) refl
    where
      by : (o : Option (K × X)) → slice_get es i ≡ o → IsGapAt R es k i
      by None none = gap_at_end (sym none)
      by (Some e) got = gap_before e got (λ tied. let f : None ≡ Some e.1 = sym absent ∙ found_here e got tied in cc)
