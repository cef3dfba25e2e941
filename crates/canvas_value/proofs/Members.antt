-- The members of a list: their sizes and depths.
use Rattle.std.proofs.Common.{◌≡◌, ℕ, zero, suc, ◌<◌, ◌≤◌, max, List, [], ◌∷◌, ◌++◌, length, get_or, Vec, Bool, true, false, refl, ap, sym, subst, ◌∙◌, arith}
use Rattle.canvas_model.specs.Value.{Value, Values, no_more, more, list, values_of, depth, members_depth}
use Rattle.canvas_value.specs.Sizes.{value_size, values_size}
use Rattle.canvas_value.specs.Range.{fits, all_fit}
use Rattle.canvas_value.specs.Seen.{seen}
use Rattle.canvas_value.specs.declared.ValueVariant.{ValueVariant}
use Rattle.canvas_value.specs.declared.ValueVariant.TheVariants as V
use Rattle.canvas_value.proofs.Tests.{both_hold}

-- the members of a list that was seen as p are together smaller than p
pub members_below : {A : Type 0} (n : ValueVariant A) (v : Vec Value A) (p : Value) → seen n ≡ p → n ≡ V.List v → values_size (values_of v.items) < value_size p
members_below n v p e f = subst (λ q. values_size (values_of v.items) < value_size q) (sym (ap seen f) ∙ e) (omega arith)

pub member_within : (ps : List Value) (i : ℕ) (d : Value) → i < length ps → value_size (get_or ps i d) ≤ values_size (values_of ps)
member_within [] i d h = absurd (omega arith)
member_within (p ∷ ps) zero d h = omega arith
member_within (p ∷ ps) (suc i) d h = let more : value_size (get_or ps i d) ≤ values_size (values_of ps) = member_within ps i d (omega arith) in omega arith

pub members_depth-more : (ps : List Value) (p : Value) → members_depth (values_of (ps ++ p ∷ [])) ≡ max (members_depth (values_of ps)) (depth p)
members_depth-more [] p = omega arith
members_depth-more (q ∷ ps) p = omega (arith, members_depth-more ps p)

-- one more value whose numbers are in range
pub all_fit-more : (ps : List Value) (p : Value) → all_fit (values_of ps) ≡ true → fits p ≡ true → all_fit (values_of (ps ++ p ∷ [])) ≡ true
all_fit-more [] p h e = rw e refl
all_fit-more (q ∷ ps) p h e = let b = both_hold (fits q) (all_fit (values_of ps)) h in rw (b.0, all_fit-more ps p b.1 e) refl

items_in : Values → List Value
items_in no_more = []
items_in (more p ps) = p ∷ items_in ps

items_back : (ps : List Value) → items_in (values_of ps) ≡ ps
unfolding items_in
items_back [] = refl
items_back (p ∷ ps) = ap (λ r. p ∷ r) (items_back ps)

pub values_of_inj : (ps qs : List Value) → values_of ps ≡ values_of qs → ps ≡ qs
values_of_inj ps qs e = sym (items_back ps) ∙ ap items_in e ∙ items_back qs

-- two values that were seen as lists are the same where their members are
pub lists_alike : {A B : Type 0} (n : ValueVariant A) (v : Vec Value A) (m : ValueVariant B) (w : Vec Value B) (p q : Value)
    → seen n ≡ p → n ≡ V.List v → seen m ≡ q → m ≡ V.List w → p ≡ q → v.items ≡ w.items
lists_alike n v m w p q e f h k same =
    let first : list (values_of v.items) ≡ p = sym (ap seen f) ∙ e in
    let second : list (values_of w.items) ≡ q = sym (ap seen k) ∙ h in
    let both : list (values_of v.items) ≡ list (values_of w.items) = first ∙ same ∙ sym second in
    values_of_inj v.items w.items (cc)
