-- What lies between the ends, by their first digits.
use Rattle.std.proofs.Common.{◌≡◌, ℕ, ◌+◌, ◌-◌, ◌*◌, ◌/◌, ◌^◌, ◌<◌, ◌≤◌, max, List, length, refl, ◌∙◌, arith, All, Option, Some, None, inl, inr, below_more}
use Rattle.std.proofs.lemmas.Bool.{cases_lt}
use Rattle.canvas_model.specs.Position.{IsDigitByte, IsSmaller, num}
use Rattle.canvas_model.specs.Middle.{IsLess, fraction, lower, upper, AreInOrder, LiesBetween, IsShut, IsMiddle}
use Rattle.canvas_pos.specs.Ends.{IsEnd, greatest_before, least_after, IsNarrow, Opens}
use Rattle.canvas_pos.proofs.Numbers.{num-zero, num-below}
use Rattle.canvas_pos.proofs.Products.{le-trans-fraction, less-common, common-less}
use Rattle.canvas_pos.proofs.EndsLemmas.{power-pos, power-split, num-pos, num-long, above-from, above-to, below-from, below-to}

-- m / 95^n is greater than the lower end exactly where m is greater than the greatest before it
pub lower-from : (lo : Option (List ℕ)) (n m : ℕ) → IsEnd lo → greatest_before lo n < m → IsLess (lower lo) (record { top = m; bottom = 95 ^ n })
lower-from None n m e h = omega arith
lower-from (Some s) n m e h = above-from s n m e.digits h

pub lower-to : (lo : Option (List ℕ)) (n m : ℕ) → IsEnd lo → m ≤ greatest_before lo n → m * (lower lo).bottom ≤ (lower lo).top * 95 ^ n
lower-to None n m e h = omega arith
lower-to (Some s) n m e h = above-to s n m e.digits h

-- m / 95^n is less than the upper end exactly where m is less than the least after it
pub upper-from : (hi : Option (List ℕ)) (n m : ℕ) → IsEnd hi → m < least_after hi n → IsLess (record { top = m; bottom = 95 ^ n }) (upper hi)
upper-from None n m e h = omega arith
upper-from (Some t) n m e h = below-from t n m e.digits e.last h

pub upper-to : (hi : Option (List ℕ)) (n m : ℕ) → IsEnd hi → least_after hi n ≤ m → (upper hi).top * 95 ^ n ≤ m * (upper hi).bottom
upper-to None n m e h = omega arith
upper-to (Some t) n m e h = below-to t n m e.digits h

-- what lies between the ends is what is greater than the greatest before and less than the least after
pub lies-from : (lo hi : Option (List ℕ)) (n m : ℕ) → IsEnd lo → IsEnd hi → greatest_before lo n < m → m < least_after hi n → LiesBetween lo hi n m
lies-from lo hi n m e f h k = record { after = lower-from lo n m e h; before = upper-from hi n m f k }

pub lies-after : (lo hi : Option (List ℕ)) (n m : ℕ) → IsEnd lo → LiesBetween lo hi n m → greatest_before lo n < m
lies-after lo hi n m e h = elim (cases_lt (greatest_before lo n) m) [
  | inl lt ↦ lt
  | inr ge ↦ let no : m * (lower lo).bottom ≤ (lower lo).top * 95 ^ n = lower-to lo n m e ge in absurd (omega (arith, h.after))
]

pub lies-before : (lo hi : Option (List ℕ)) (n m : ℕ) → IsEnd hi → LiesBetween lo hi n m → m < least_after hi n
lies-before lo hi n m e h = elim (cases_lt m (least_after hi n)) [
  | inl lt ↦ lt
  | inr ge ↦ let no : (upper hi).top * 95 ^ n ≤ m * (upper hi).bottom = upper-to hi n m e ge in absurd (omega (arith, h.before))
]

-- the order of positions is that of their fractions
pub smaller-less : (s t : List ℕ) → IsSmaller s t → IsLess (fraction s) (fraction t)
smaller-less s t h =
    let n = max (length s) (length t) in
    let left : num s n ≡ num s (length s) * 95 ^ (n - length s) = num-long s (length s) n (omega arith) (omega arith) in
    let right : num t n ≡ num t (length t) * 95 ^ (n - length t) = num-long t (length t) n (omega arith) (omega arith) in
    less-common (num s (length s)) (num t (length t)) (95 ^ length s) (95 ^ length t) (95 ^ (n - length s)) (95 ^ (n - length t)) (95 ^ n)
    (power-pos (length s)) (power-pos (length t)) (power-split (length s) n (omega arith)) (power-split (length t) n (omega arith)) (omega arith)

-- the other way round
pub less-smaller : (s t : List ℕ) → IsLess (fraction s) (fraction t) → IsSmaller s t
less-smaller s t h =
    let n = max (length s) (length t) in
    let left : num s n ≡ num s (length s) * 95 ^ (n - length s) = num-long s (length s) n (omega arith) (omega arith) in
    let right : num t n ≡ num t (length t) * 95 ^ (n - length t) = num-long t (length t) n (omega arith) (omega arith) in
    omega (
      arith,
      left,
      right,
      common-less (num s (length s)) (num t (length t)) (95 ^ length s) (95 ^ length t) (95 ^ (n - length s)) (95 ^ (n - length t)) (95 ^ n)
          (power-pos n) (power-split (length s) n (omega arith)) (power-split (length t) n (omega arith)) h,
    )

-- ends in order are in order as fractions, missing ones too
pub ends-less : (lo hi : Option (List ℕ)) → IsEnd lo → IsEnd hi → AreInOrder lo hi → IsLess (lower lo) (upper hi)
ends-less None None e f h = omega arith
ends-less None (Some t) e f h = omega (arith, num-pos t (length t) f.not_empty (omega arith) f.digits f.last)
ends-less (Some s) None e f h = omega (arith, num-below s (length s) e.digits)
ends-less (Some s) (Some t) e f h = smaller-less s t h

-- at each length the ends are apart
pub apart : (lo hi : Option (List ℕ)) (n : ℕ) → IsEnd lo → IsEnd hi → AreInOrder lo hi → greatest_before lo n < least_after hi n
apart lo hi n e f h = elim (cases_lt (greatest_before lo n) (least_after hi n)) [
  | inl lt ↦ lt
  | inr ge ↦
      let no : (upper hi).top * (lower lo).bottom ≤ (lower lo).top * (upper hi).bottom =
      le-trans-fraction (upper hi).top (upper hi).bottom (greatest_before lo n) (95 ^ n) (lower lo).top (lower lo).bottom
      (power-pos n) (upper-to hi n (greatest_before lo n) f ge) (lower-to lo n (greatest_before lo n) e (omega arith)) in
      absurd (omega (arith, ends-less lo hi e f h))
]

-- with no digits, the ends are 0 and 1
pub greatest_before-zero : (lo : Option (List ℕ)) → greatest_before lo 0 ≡ 0
greatest_before-zero None = refl
greatest_before-zero (Some s) = num-zero s

pub least_after-zero : (hi : Option (List ℕ)) → IsEnd hi → least_after hi 0 ≡ 1
least_after-zero None f = refl
least_after-zero (Some t) f = omega (arith, num-zero t, f.not_empty)

-- so they are next to each other
pub narrow-zero : (lo hi : Option (List ℕ)) → IsEnd lo → IsEnd hi → IsNarrow lo hi 0
narrow-zero lo hi e f = record {
  shut = λ k h. absurd (omega arith);
  next = omega (arith, greatest_before-zero lo, least_after-zero hi f);
}

-- where the ends are next to each other, nothing lies between them
pub shut-narrow : (lo hi : Option (List ℕ)) (n : ℕ) → IsEnd lo → IsEnd hi → IsNarrow lo hi n → IsShut lo hi n
shut-narrow lo hi n e f h m l = omega (arith, lies-after lo hi n m e l, lies-before lo hi n m f l, h.next)

-- one more digit of each end, between which there is no other
pub narrow-suc : (lo hi : Option (List ℕ)) (n d c : ℕ) → IsEnd lo → IsEnd hi → AreInOrder lo hi → IsNarrow lo hi n
    → greatest_before lo (n + 1) ≡ 95 * greatest_before lo n + d → least_after hi (n + 1) + 95 ≡ 95 * least_after hi n + c → c ≤ d + 1 → IsNarrow lo hi (n + 1)
narrow-suc lo hi n d c e f o h p q tight = record {
  shut = below_more _ n h.shut (shut-narrow lo hi n e f h);
  next = omega (arith, apart lo hi (n + 1) e f o, h.next, p, q);
}

-- one more digit of each end, between which there is another
pub opens-suc : (lo hi : Option (List ℕ)) (n d c : ℕ) → IsEnd lo → IsEnd hi → IsNarrow lo hi n
    → greatest_before lo (n + 1) ≡ 95 * greatest_before lo n + d → least_after hi (n + 1) + 95 ≡ 95 * least_after hi n + c → d + 1 < c → Opens lo hi n ((d + c) / 2)
opens-suc lo hi n d c e f h p q wide =
    let next : least_after hi n ≡ greatest_before lo n + 1 = h.next in
    record {
      shut = below_more _ n h.shut (shut-narrow lo hi n e f h);
      least = 95 * greatest_before lo n + d + 1;
      greatest = 95 * greatest_before lo n + c - 1;
      is_least = record {
        holds = lies-from lo hi (n + 1) (95 * greatest_before lo n + d + 1) e f (omega arith) (omega arith);
        least = λ k l. omega (arith, lies-after lo hi (n + 1) k e l);
      };
      is_greatest = record {
        holds = lies-from lo hi (n + 1) (95 * greatest_before lo n + c - 1) e f (omega arith) (omega arith);
        greatest = λ k l. omega (arith, lies-before lo hi (n + 1) k f l);
      };
      half_way = omega arith;
    }

-- the middle, where the ends open
pub middle-opens : (lo hi : Option (List ℕ)) (n last : ℕ) (p : List ℕ) → Opens lo hi n last → n < 128
    → length p ≡ n + 1 → All IsDigitByte p → num p (n + 1) ≡ 95 * greatest_before lo n + last → IsMiddle lo hi p
middle-opens lo hi n last p o h len digits value = record {
  short = omega arith;
  digits = digits;
  least_length = λ k l. o.shut k (omega arith);
  least = o.least;
  greatest = o.greatest;
  is_least = rw len o.is_least;
  is_greatest = rw len o.is_greatest;
  half_way = rw len (value ∙ o.half_way);
}
