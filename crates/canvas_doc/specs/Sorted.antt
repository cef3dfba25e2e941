-- Lists of pairs in the order of their keys.
use Rattle.std.specs.Prelude.{◌≡◌, ℕ, ◌<◌, ◌≤◌, Bool, not, List, length, slice_index_or, None, Some}
use Rattle.std.specs.List.{insert}
use Rattle.std.specs.declared.cmp.Ordering.{Ordering}
use Rattle.std.specs.declared.cmp.Ordering.TheVariants.{Equal}
use Rattle.std.specs.Ordering.{eq_by_cmp}
use Rattle.std.specs.FinMap.{find, put}

-- whether the key is another one than k
abbrev pub is_other : {K : Type 0} → (K → K → Ordering) → K → K → Bool
is_other R k x = not (eq_by_cmp R x k)

module _ {K X : Type 0} (R : K → K → Ordering) (es : List (K × X)) (k : K) where
  -- the key's pair is the one at this index
  pub record IsPairAt (i : ℕ) : Type 0 where
    pub in_range : i < length es
    pub tied : (d : K × X) → R (slice_index_or es i d).0 k ≡ Equal
    pub found : (d : K × X) → find R k es ≡ Some (slice_index_or es i d).1

  -- there is no pair of the key, and it would go there
  pub record IsGapAt (i : ℕ) : Type 0 where
    pub in_range : i ≤ length es
    pub absent : find R k es ≡ None
    pub put_there : (x : X) → insert es i (k, x) ≡ put R k x es
