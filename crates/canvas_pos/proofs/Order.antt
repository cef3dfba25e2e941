-- The order of the bytes of positions is that of their fractions.
use Rattle.std.proofs.Common.{◌≡◌, ◌≢◌, ◌↔◌, Option, Some, None, ℕ, zero, suc, ◌+◌, ◌-◌, ◌*◌, ◌^◌, ◌<◌, ◌≤◌, max, List, [], ◌∷◌, length, get_or, drop, inl, inr, refl, ap, sym, subst, ◌∙◌, arith, All}
use Rattle.std.proofs.Math.Nat.{mul-le-mul_right}
use Rattle.std.proofs.lemmas.Bool.{cases_lt}
use Rattle.std.specs.declared.cmp.Ordering.{Ordering}
use Rattle.std.specs.declared.cmp.Ordering.TheVariants.{Less, Equal, Greater}
use Rattle.std.specs.Ordering.{MatchOrdering, nat_cmp, ordering_then}
use Rattle.std.specs.Cmp.{ranks}
use Rattle.std.specs.Cmp.Lexicographic.{slice_cmp}
use Rattle.canvas_model.specs.Position.{IsDigitByte, IsPosition, IsSmaller, num}
use Rattle.canvas_model.specs.Middle.{AreInOrder, IsInside}
use Rattle.canvas_model.specs.Order.{IsBefore, IsLowEnd, IsHighEnd, AreApart, FitsBetween}
use Rattle.canvas_pos.specs.Ends.{IsEnd}
use Rattle.canvas_pos.proofs.Numbers.{num-add, num-cons, num-empty, num-below, num-past, digits-tail}
use Rattle.canvas_pos.proofs.EndsLemmas.{digits-drop, num-pos, power-pos}
use Rattle.canvas_pos.proofs.Products.{less-trans-fraction}
use Rattle.canvas_pos.proofs.Gaps.{smaller-less, less-smaller}

-- digits with no 0 at their end
record IsTrimmed (s : List ℕ) : Type 0 where
  digits : All IsDigitByte s
  last : 0 < length s → get_or s (length s - 1) 32 ≢ 32

-- the rest of such digits ends so too
trimmed-tail : (x : ℕ) (xs : List ℕ) → IsTrimmed (x ∷ xs) → IsTrimmed xs
trimmed-tail x xs h = record {
  digits = digits-tail x xs h.digits;
  last = λ l e. h.last (omega arith) (ap (λ k. get_or (x ∷ xs) k 32) (let e : suc (length xs) - 1 ≡ suc (length xs - 1) = omega arith in e) ∙ e);
}

-- each case of a comparison follows from that of another
match_then : (o : Ordering) {P Q R S T U : Type 0} → (P → S) → (Q → T) → (R → U) → MatchOrdering o P Q R → MatchOrdering o S T U
match_then Less f g h m = f m
match_then Equal f g h m = g m
match_then Greater f g h m = h m

-- a smaller first digit decides
first-decides : (x y : ℕ) (xs ys : List ℕ) (n : ℕ) → All IsDigitByte (x ∷ xs) → x < y → num (x ∷ xs) (suc n) < num (y ∷ ys) (suc n)
first-decides x y xs ys n d h =
    let here : IsDigitByte x = d 0 32 (omega arith) in
    let rest : num xs n < 95 ^ n = num-below xs n (digits-tail x xs d) in
    let first : (x - 32 + 1) * 95 ^ n ≤ (y - 32) * 95 ^ n = mul-le-mul_right (95 ^ n) (omega arith) in
    omega (arith, num-cons x xs n, num-cons y ys n, rest, first)

-- a first digit that is the same leaves it to the rest
same-first : (x y : ℕ) (xs ys : List ℕ) (n : ℕ) → x ≡ y → num xs n < num ys n → num (x ∷ xs) (suc n) < num (y ∷ ys) (suc n)
same-first x y xs ys n e h =
    let first : (x - 32) * 95 ^ n ≡ (y - 32) * 95 ^ n = ap (λ b. (b - 32) * 95 ^ n) e in
    omega (arith, num-cons x xs n, num-cons y ys n, first)

-- digits with no 0 at their end compare as their numbers do
ordered : (s t : List ℕ) (n : ℕ) → IsTrimmed s → IsTrimmed t → length s ≤ n → length t ≤ n
    → MatchOrdering (slice_cmp nat_cmp s t) (num s n < num t n) (s ≡ t) (num t n < num s n)
ordered [] [] n a b h k = refl
ordered [] (y ∷ ys) n a b h k = omega (arith, num-empty n, num-pos (y ∷ ys) n (omega arith) k b.digits (b.last (omega arith)))
ordered (x ∷ xs) [] n a b h k = omega (arith, num-empty n, num-pos (x ∷ xs) n (omega arith) h a.digits (a.last (omega arith)))
ordered (x ∷ xs) (y ∷ ys) zero a b h k = absurd (omega arith)
ordered (x ∷ xs) (y ∷ ys) (suc n) a b h k =
    let tail : MatchOrdering (slice_cmp nat_cmp xs ys) (num xs n < num ys n) (xs ≡ ys) (num ys n < num xs n) =
    ordered xs ys n (trimmed-tail x xs a) (trimmed-tail y ys b) (omega arith) (omega arith) in
    elim (nat_cmp x y) as (λ r. MatchOrdering r (x < y) (x ≡ y) (y < x)
    → MatchOrdering (ordering_then r (slice_cmp nat_cmp xs ys)) (num (x ∷ xs) (suc n) < num (y ∷ ys) (suc n)) (x ∷ xs ≡ y ∷ ys) (num (y ∷ ys) (suc n) < num (x ∷ xs) (suc n))) [
      | Less ↦ λ l. first-decides x y xs ys n a.digits l
      | Equal ↦ λ e. match_then (slice_cmp nat_cmp xs ys) (same-first x y xs ys n e) (λ f. cc) (same-first y x ys xs n (sym e)) tail
      | Greater ↦ λ l. first-decides y x ys xs n b.digits l
    ] (ranks x y)

trimmed : (s : List ℕ) → IsPosition s → IsTrimmed s
trimmed s h = record { digits = h.digits; last = λ _. h.last }

-- positions of at most n digits with one number there are the same
pub same-digits : (n : ℕ) (s t : List ℕ) → IsPosition s → IsPosition t → length s ≤ n → length t ≤ n → num s n ≡ num t n → s ≡ t
same-digits n s t p q h k e =
    elim (slice_cmp nat_cmp s t) as (λ r. MatchOrdering r (num s n < num t n) (s ≡ t) (num t n < num s n) → s ≡ t) [
      | Less ↦ λ l. absurd (omega arith)
      | Equal ↦ λ same. same
      | Greater ↦ λ l. absurd (omega arith)
    ] (ordered s t n (trimmed s p) (trimmed t q) h k)

-- positions compare as their fractions do
pub order-positions : (s t : List ℕ) → IsPosition s → IsPosition t → MatchOrdering (slice_cmp nat_cmp s t) (IsSmaller s t) (s ≡ t) (IsSmaller t s)
order-positions s t p q =
    let same : max (length s) (length t) ≡ max (length t) (length s) = omega arith in
    match_then (slice_cmp nat_cmp s t) (λ l. l) (λ e. e) (λ l. rw (← same) l)
    (ordered s t (max (length s) (length t)) (trimmed s p) (trimmed t q) (omega arith) (omega arith))

-- for callers that know one of the two orders
pub smaller-from_cmp : (s t : List ℕ) → IsPosition s → IsPosition t → slice_cmp nat_cmp s t ≡ Less → IsSmaller s t
smaller-from_cmp s t p q e = subst (λ r. MatchOrdering r (IsSmaller s t) (s ≡ t) (IsSmaller t s)) e (order-positions s t p q)

pub cmp-from_smaller : (s t : List ℕ) → IsPosition s → IsPosition t → IsSmaller s t → slice_cmp nat_cmp s t ≡ Less
cmp-from_smaller s t p q l =
    elim (slice_cmp nat_cmp s t) as (λ r. MatchOrdering r (IsSmaller s t) (s ≡ t) (IsSmaller t s) → r ≡ Less) [
      | Less ↦ λ _. refl
      | Equal ↦ λ e. absurd (let m : num s (max (length s) (length s)) < num s (max (length s) (length s)) = rw (← e) at l in omega arith)
      | Greater ↦ λ g. absurd (let same : max (length t) (length s) ≡ max (length s) (length t) = omega arith in let m : num t (max (length s) (length t)) < num s (max (length s) (length t)) = rw same at g in omega arith)
    ] (order-positions s t p q)

-- the order of fractions is transitive, also where they are written with a 0 at the end
pub smaller-trans : (s t u : List ℕ) → IsSmaller s t → IsSmaller t u → IsSmaller s u
smaller-trans s t u a b =
    less-smaller s u (less-trans-fraction (num s (length s)) (95 ^ length s) (num t (length t)) (95 ^ length t) (num u (length u)) (95 ^ length u)
    (power-pos (length s)) (power-pos (length u)) (smaller-less s t a) (smaller-less t u b))

-- byte order is the order of fractions, both ways
pub before-smaller : (s t : List ℕ) → IsPosition s → IsPosition t → IsBefore s t ↔ IsSmaller s t
before-smaller s t p q = (smaller-from_cmp s t p q, cmp-from_smaller s t p q)

-- the same for an end that may be missing
after-above : (lo : Option (List ℕ)) (p : List ℕ) → IsEnd lo → IsPosition p → IsLowEnd lo p ↔ AreInOrder lo (Some p)
after-above None p e h = (λ _. tt, λ _. tt)
after-above (Some s) p e h = before-smaller s p e h

under-below : (p : List ℕ) (hi : Option (List ℕ)) → IsPosition p → IsEnd hi → IsHighEnd hi p ↔ AreInOrder (Some p) hi
under-below p None h f = (λ _. tt, λ _. tt)
under-below p (Some t) h f = before-smaller p t h f

-- and for two ends
pub apart-in_order : (lo hi : Option (List ℕ)) → IsEnd lo → IsEnd hi → AreApart lo hi ↔ AreInOrder lo hi
apart-in_order None hi e f = (λ _. tt, λ _. tt)
apart-in_order (Some s) hi e f = under-below s hi e f

-- and for a position between two ends
pub fits-inside : (lo hi : Option (List ℕ)) (p : List ℕ) → IsEnd lo → IsEnd hi → FitsBetween lo hi p ↔ IsInside lo hi p
fits-inside lo hi p e f = (
  λ h. record { position = h.0; after = (after-above lo p e h.0).0 h.1; before = (under-below p hi h.0 f).0 h.2 },
  λ h. (h.position, (after-above lo p e h.position).1 h.after, (under-below p hi h.position f).1 h.before),
)

-- the first n digits decide the order, where they aren't the same
pub digits_decide : (n : ℕ) (s t : List ℕ) → IsPosition s → IsPosition t → num s n < num t n → IsBefore s t
digits_decide n s t p q h = cmp-from_smaller s t p q (go (max (length s) (length t)) (omega arith) (omega arith))
  where
    go : (m : ℕ) → length s ≤ m → length t ≤ m → num s m < num t m
    go m ls lt = elim (cases_lt m n) as (λ _. num s m < num t m) [
      | inl more ↦ elim (cases_lt (num s m) (num t m)) as (λ _. num s m < num t m) [
        | inl less ↦ less
        | inr not_less ↦
            let k = n - m in
            let at : n ≡ m + k = omega arith in
            let left : num s n ≡ num s m * 95 ^ k = ap (num s) at ∙ num-past s m k ls in
            let right : num t n ≡ num t m * 95 ^ k = ap (num t) at ∙ num-past t m k lt in
            let over : num t m * 95 ^ k ≤ num s m * 95 ^ k = mul-le-mul_right (95 ^ k) (omega arith) in
            absurd (omega (arith, left, right, over, h))
      ]
      | inr not_more ↦
          let k = m - n in
          let at : m ≡ n + k = omega arith in
          let left : num s m ≡ num s n * 95 ^ k + num (drop n s) k = ap (num s) at ∙ num-add s n k in
          let right : num t m ≡ num t n * 95 ^ k + num (drop n t) k = ap (num t) at ∙ num-add t n k in
          let rest : num (drop n s) k < 95 ^ k = num-below (drop n s) k (digits-drop n s p.digits) in
          let over : (num s n + 1) * 95 ^ k ≤ num t n * 95 ^ k = mul-le-mul_right (95 ^ k) (omega arith) in
          omega (arith, left, right, rest, over)
    ]
