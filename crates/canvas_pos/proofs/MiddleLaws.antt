-- What the middle is: a position, strictly between the ends, short, and the only one.
use Rattle.std.proofs.Common.{◌≡◌, ℕ, zero, suc, ◌+◌, ◌-◌, ◌*◌, ◌<◌, ◌≤◌, max, List, [], ◌∷◌, length, codes, All, add-one, refl, ap, sym, subst, ◌∙◌, arith, Option, Some, None, inl, inr}
use Rattle.std.proofs.Math.Nat.{pow-suc, mul-le-mul_right, lt_of_mul-lt-mul_right}
use Rattle.std.proofs.lemmas.Bool.{cases_lt, cases_order}
use Rattle.std.proofs.lemmas.List.{get_or_past}
use Rattle.std.specs.declared.cmp.Ordering.TheVariants.{Less, Equal, Greater}
use Rattle.std.specs.Ordering.{MatchOrdering, nat_cmp}
use Rattle.std.specs.Cmp.Lexicographic.{slice_cmp}
use Rattle.canvas_model.specs.Position.{IsDigitByte, IsPosition, IsSmaller, digit, num}
use Rattle.canvas_model.specs.Middle.{IsLess, fraction, lower, upper, AreInOrder, LiesBetween, IsShut, IsMiddle, IsInside}
use Rattle.canvas_pos.proofs.Numbers.{num-suc, num-next, num-below}
use Rattle.canvas_pos.proofs.EndsLemmas.{num-pos}
use Rattle.canvas_pos.specs.Ends.{IsEnd, end_length, greatest_before, least_after, Opens}
use Rattle.canvas_pos.proofs.Gaps.{apart, narrow-zero, opens-suc, middle-opens, lies-from, lies-after, lies-before, greatest_before-zero, least_after-zero, less-smaller, smaller-less}
use Rattle.canvas_pos.proofs.Order.{order-positions}

-- what lies between two numbers that lie between the ends lies there too
lies-convex : (lo hi : Option (List ℕ)) (n a m b : ℕ) → LiesBetween lo hi n a → LiesBetween lo hi n b → a ≤ m → m ≤ b → LiesBetween lo hi n m
lies-convex lo hi n a m b h k l r =
    let up : a * (lower lo).bottom ≤ m * (lower lo).bottom = mul-le-mul_right (lower lo).bottom l in
    let down : m * (upper hi).bottom ≤ b * (upper hi).bottom = mul-le-mul_right (upper hi).bottom r in
    record { after = omega (arith, h.after); before = omega (arith, k.before) }

-- the middle's own number lies between the ends
pub lies-middle : (lo hi : Option (List ℕ)) (p : List ℕ) → IsMiddle lo hi p → LiesBetween lo hi (length p) (num p (length p))
lies-middle lo hi p h =
    let within : h.least ≤ h.greatest = h.is_greatest.greatest h.least h.is_least.holds in
    lies-convex lo hi (length p) h.least (num p (length p)) h.greatest h.is_least.holds h.is_greatest.holds (omega (arith, h.half_way)) (omega (arith, h.half_way))

-- a number with a 0 at its end lies there at a smaller length
lies-shorter : (lo hi : Option (List ℕ)) (n m : ℕ) → LiesBetween lo hi (suc n) (95 * m) → LiesBetween lo hi n m
lies-shorter lo hi n m h = record {
  after = lt_of_mul-lt-mul_right 95 (omega (arith, h.after, ap (λ e. (lower lo).top * e) (pow-suc 95 n)));
  before = lt_of_mul-lt-mul_right 95 (omega (arith, h.before, ap (λ e. (upper hi).top * e) (pow-suc 95 n)));
}

-- the middle is a position
pub middle-position : (lo hi : Option (List ℕ)) (p : List ℕ) → IsEnd lo → IsEnd hi → IsMiddle lo hi p → IsPosition p
middle-position lo hi p e f h =
    let lies : LiesBetween lo hi (length p) (num p (length p)) = lies-middle lo hi p h in
    let some : 0 < length p = elim (cases_lt 0 (length p)) [
      | inl lt ↦ lt
      | inr ge ↦
          let none : length p ≡ 0 = omega arith in
          let zero-lies : LiesBetween lo hi 0 (num p (length p)) = subst (λ n. LiesBetween lo hi n (num p (length p))) none lies in
          absurd (omega (arith, lies-after lo hi 0 (num p (length p)) e zero-lies, lies-before lo hi 0 (num p (length p)) f zero-lies, greatest_before-zero lo, least_after-zero hi f))
    ] in
    record {
      not_empty = some;
      short = h.short;
      digits = h.digits;
      last = λ z.
          let len : length p ≡ suc (length p - 1) = omega arith in
          let at : num p (length p) ≡ 95 * num p (length p - 1) =
          ap (num p) len ∙ num-suc p (length p - 1) ∙ (let none : digit p (length p - 1) ≡ 0 = ap (λ b. b - 32) z in omega (arith, none)) in
          let longer : LiesBetween lo hi (suc (length p - 1)) (95 * num p (length p - 1)) = rw (← len, ← at) lies in
          h.least_length (length p - 1) (omega arith) (num p (length p - 1)) (lies-shorter lo hi (length p - 1) (num p (length p - 1)) longer);
    }

-- it is greater than the lower end
above-middle : (lo hi : Option (List ℕ)) (p : List ℕ) → LiesBetween lo hi (length p) (num p (length p)) → AreInOrder lo (Some p)
above-middle None hi p l = tt
above-middle (Some s) hi p l = less-smaller s p l.after

-- and less than the upper one
below-middle : (lo hi : Option (List ℕ)) (p : List ℕ) → LiesBetween lo hi (length p) (num p (length p)) → AreInOrder (Some p) hi
below-middle lo None p l = tt
below-middle lo (Some t) p l = less-smaller p t l.before

-- a position whose own number lies between the ends is strictly between them
pub inside-lies : (lo hi : Option (List ℕ)) (p : List ℕ) → IsPosition p → LiesBetween lo hi (length p) (num p (length p)) → IsInside lo hi p
inside-lies lo hi p h l = record { position = h; after = above-middle lo hi p l; before = below-middle lo hi p l }

-- the middle is a position strictly between the ends
pub middle-inside : (lo hi : Option (List ℕ)) (p : List ℕ) → IsEnd lo → IsEnd hi → IsMiddle lo hi p → IsInside lo hi p
middle-inside lo hi p e f h = inside-lies lo hi p (middle-position lo hi p e f h) (lies-middle lo hi p h)

-- a position strictly between the ends lies there as a fraction
above-inside : (lo : Option (List ℕ)) (p : List ℕ) → IsPosition p → AreInOrder lo (Some p) → IsLess (lower lo) (fraction p)
above-inside None p h l = omega (arith, num-pos p (length p) h.not_empty (omega arith) h.digits h.last)
above-inside (Some s) p h l = smaller-less s p l

below-inside : (hi : Option (List ℕ)) (p : List ℕ) → IsPosition p → AreInOrder (Some p) hi → IsLess (fraction p) (upper hi)
below-inside None p h l = omega (arith, num-below p (length p) h.digits)
below-inside (Some t) p h l = smaller-less p t l

-- where nothing of at most 128 digits lies between the ends, no position does
pub shut-outside : (lo hi : Option (List ℕ)) → ((n : ℕ) → n ≤ 128 → IsShut lo hi n) → (p : List ℕ) → ¬ IsInside lo hi p
shut-outside lo hi h p i =
    h (length p) i.position.short (num p (length p)) (record {
      after = above-inside lo p i.position i.after;
      before = below-inside hi p i.position i.before;
    })

-- past its end an end has zeros
greatest_before-past : (lo : Option (List ℕ)) (n : ℕ) → end_length lo ≤ n → greatest_before lo (n + 1) ≡ 95 * greatest_before lo n
greatest_before-past None n h = refl
greatest_before-past (Some s) n h =
    let none : digit s n ≡ 0 = ap (λ b. b - 32) (get_or_past s n 32 h) in
    omega (arith, num-next s n, none)

least_after-past : (hi : Option (List ℕ)) (n : ℕ) → end_length hi ≤ n → least_after hi (n + 1) ≡ 95 * least_after hi n
least_after-past None n h = rw (add-one, pow-suc) (omega arith)
least_after-past (Some t) n h =
    let none : digit t n ≡ 0 = ap (λ b. b - 32) (get_or_past t n 32 h) in
    omega (arith, num-next t n, none)

-- at one digit more than the longer end there is room
pub middle-short : (lo hi : Option (List ℕ)) (p : List ℕ) → IsEnd lo → IsEnd hi → AreInOrder lo hi → IsMiddle lo hi p → length p ≤ max (end_length lo) (end_length hi) + 1
middle-short lo hi p e f o h =
    let n = max (end_length lo) (end_length hi) in
    let low : greatest_before lo (n + 1) ≡ 95 * greatest_before lo n = greatest_before-past lo n (omega arith) in
    let high : least_after hi (n + 1) ≡ 95 * least_after hi n = least_after-past hi n (omega arith) in
    let gap : greatest_before lo n < least_after hi n = apart lo hi n e f o in
    elim (cases_lt (n + 1) (length p)) [
      | inl lt ↦ absurd (h.least_length (n + 1) lt (greatest_before lo (n + 1) + 1) (lies-from lo hi (n + 1) (greatest_before lo (n + 1) + 1) e f (omega arith) (omega arith)))
      | inr ge ↦ ge
    ]

-- positions of one length with one number are the same
same-number : (p q : List ℕ) → IsPosition p → IsPosition q → length p ≡ length q → num p (length p) ≡ num q (length p) → p ≡ q
same-number p q a b len e =
    elim (slice_cmp nat_cmp p q) as (λ r. MatchOrdering r (IsSmaller p q) (p ≡ q) (IsSmaller q p) → p ≡ q) [
      | Less ↦ λ l. absurd (let at : max (length p) (length q) ≡ length p = omega arith in let m : num p (length p) < num q (length p) = rw at at l in omega arith)
      | Equal ↦ λ h. h
      | Greater ↦ λ l. absurd (let at : max (length q) (length p) ≡ length p = omega arith in let m : num q (length p) < num p (length p) = rw at at l in omega arith)
    ] (order-positions p q a b)

-- there is one middle at most
pub middle-unique : (lo hi : Option (List ℕ)) (p q : List ℕ) → IsEnd lo → IsEnd hi → IsMiddle lo hi p → IsMiddle lo hi q → p ≡ q
middle-unique lo hi p q e f h k =
    let len : length p ≡ length q = elim (cases_order (length p) (length q)) [
      | inl same ↦ same
      | inr (inl lt) ↦ absurd (k.least_length (length p) lt h.least h.is_least.holds)
      | inr (inr gt) ↦ absurd (h.least_length (length q) gt k.least k.is_least.holds)
    ] in
    let k-least : LiesBetween lo hi (length p) k.least = rw len k.is_least.holds in
    let k-greatest : LiesBetween lo hi (length p) k.greatest = rw len k.is_greatest.holds in
    let h-least : LiesBetween lo hi (length q) h.least = rw (← len) h.is_least.holds in
    let h-greatest : LiesBetween lo hi (length q) h.greatest = rw (← len) h.is_greatest.holds in
    let one : num p (length p) ≡ num q (length q) =
    omega (arith, h.half_way, k.half_way, h.is_least.least k.least k-least, k.is_least.least h.least h-least, h.is_greatest.greatest k.greatest k-greatest, k.is_greatest.greatest h.greatest h-greatest) in
    same-number p q (middle-position lo hi p e f h) (middle-position lo hi q e f k) len (one ∙ ap (num q) (sym len))

one-digit : (b : ℕ) → IsDigitByte b → All IsDigitByte (b ∷ [])
one-digit b h zero d l = h
one-digit b h (suc k) d l = absurd (omega arith)

-- with no ends, `O`
pub middle-alone : IsMiddle None None (codes "O")
unfolding num
middle-alone =
    let opens : Opens None None 0 47 = opens-suc None None 0 0 95 tt tt (narrow-zero None None tt tt) refl refl (omega arith) in
    middle-opens None None 0 47 (codes "O") opens (omega arith) refl (one-digit 79 (record { low = omega arith; high = omega arith })) refl
