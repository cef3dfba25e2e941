-- What lies a small step behind a position or before it.
use Rattle.std.proofs.Common.{◌≡◌, ◌≢◌, ℕ, zero, suc, ◌+◌, ◌-◌, ◌*◌, ◌/◌, ◌%◌, ◌^◌, ◌<◌, ◌≤◌, List, [], ◌∷◌, ◌++◌, length, get_or, codes, add-one, refl, sym, ap, subst, ◌∙◌, arith, Option, Some, None, inl, inr, below_more}
use Rattle.std.proofs.Math.Nat.{pow-suc, add-zero, add-suc, lt_of_mul-lt-mul_right, le_of_mul-le-mul_right}
use Rattle.std.proofs.Math.Seq.{get_or-append_seam}
use Rattle.std.proofs.lemmas.Bool.{cases_lt, cases_order}
use Rattle.canvas_model.specs.Position.{IsPosition, digit, num}
use Rattle.canvas_model.specs.Middle.{lower, upper, LiesBetween, IsShut, IsLeast, IsGreatest}
use Rattle.canvas_model.specs.Order.{FitsBetween}
use Rattle.canvas_pos.specs.Ends.{IsEnd, greatest_before, least_after, IsNarrow}
use Rattle.canvas_pos.specs.Step.{AreFewest, HoldNoStep, IsStepAfter, IsStepBefore, AreSteps}
use Rattle.canvas_pos.proofs.Numbers.{num-next, num-push}
use Rattle.canvas_pos.proofs.EndsLemmas.{power-pos, power-split, num-long}
use Rattle.canvas_pos.proofs.Gaps.{apart, lies-from, lies-after, lies-before, shut-narrow, narrow-suc}
use Rattle.canvas_pos.proofs.MiddleLaws.{inside-lies, shut-outside, middle-position, middle-alone}
use Rattle.canvas_pos.proofs.Order.{fits-inside, same-digits}

-- what lies between the ends lies there with a 0 at its end too
lies-longer : (lo hi : Option (List ℕ)) (n m : ℕ) → LiesBetween lo hi n m → LiesBetween lo hi (suc n) (95 * m)
lies-longer lo hi n m h = record {
  after = omega (arith, h.after, ap (λ e. (lower lo).top * e) (pow-suc 95 n));
  before = omega (arith, h.before, ap (λ e. (upper hi).top * e) (pow-suc 95 n));
}

-- so where nothing of some length lies between the ends, nothing shorter does
shut-shorter : (lo hi : Option (List ℕ)) (n d : ℕ) → IsShut lo hi (n + d) → IsShut lo hi n
shut-shorter lo hi n zero h = rw add-zero at h
shut-shorter lo hi n (suc d) h =
    let more : IsShut lo hi (suc (n + d)) = rw add-suc at h in
    shut-shorter lo hi n d (λ m l. more (95 * m) (lies-longer lo hi (n + d) m l))

pub shut-below : (lo hi : Option (List ℕ)) (n k : ℕ) → k ≤ n → IsShut lo hi n → IsShut lo hi k
shut-below lo hi n k le h =
    let at : n ≡ k + (n - k) = omega arith in
    shut-shorter lo hi k (n - k) (rw (← at) h)

-- ends that are next to each other at n digits
pub narrow-next : (lo hi : Option (List ℕ)) (n : ℕ) → IsEnd lo → IsEnd hi → least_after hi n ≡ greatest_before lo n + 1 → IsNarrow lo hi n
narrow-next lo hi n e f next =
    let shut : IsShut lo hi n = λ m l. omega (arith, lies-after lo hi n m e l, lies-before lo hi n m f l, next) in
    record { shut = λ k lt. shut-below lo hi n k (omega arith) shut; next = next }

-- the least and the greatest of a length between the ends
pub lies-least : (lo hi : Option (List ℕ)) (n : ℕ) → IsEnd lo → IsEnd hi → greatest_before lo n + 1 < least_after hi n → IsLeast (LiesBetween lo hi n) (greatest_before lo n + 1)
lies-least lo hi n e f wide = record {
  holds = lies-from lo hi n (greatest_before lo n + 1) e f (omega arith) (omega arith);
  least = λ k l. omega (arith, lies-after lo hi n k e l);
}

pub lies-greatest : (lo hi : Option (List ℕ)) (n m : ℕ) → IsEnd lo → IsEnd hi → m + 1 ≡ least_after hi n → greatest_before lo n < m → IsGreatest (LiesBetween lo hi n) m
lies-greatest lo hi n m e f at wide = record {
  holds = lies-from lo hi n m e f (omega arith) (omega arith);
  greatest = λ k l. omega (arith, lies-before lo hi n k f l);
}

-- four digits are the fewest
pub fewest-four : (lo hi : Option (List ℕ)) → AreFewest lo hi 4
fewest-four lo hi = record { least = omega arith; most = omega arith; fewer = λ k l g. absurd (omega arith) }

-- where the ends are next to each other, one digit more
pub fewest-suc : (lo hi : Option (List ℕ)) (n : ℕ) → IsEnd lo → IsEnd hi → IsNarrow lo hi n → 4 ≤ n → n < 128 → AreFewest lo hi (n + 1)
fewest-suc lo hi n e f h low high = record {
  least = omega arith;
  most = omega arith;
  fewer = λ k _ lt. below_more _ n h.shut (shut-narrow lo hi n e f h) k lt;
}

-- what lies between the ends with zeros at its end lies there without them
lies-trimmed : (lo hi : Option (List ℕ)) (p : List ℕ) (n : ℕ) → length p ≤ n → LiesBetween lo hi n (num p n) → LiesBetween lo hi (length p) (num p (length p))
lies-trimmed lo hi p n h l =
    let number : num p n ≡ num p (length p) * 95 ^ (n - length p) = num-long p (length p) n (omega arith) h in
    let bottom : 95 ^ n ≡ 95 ^ length p * 95 ^ (n - length p) = power-split (length p) n h in
    let after : (lower lo).top * (95 ^ length p * 95 ^ (n - length p)) < num p (length p) * 95 ^ (n - length p) * (lower lo).bottom = rw (number, bottom) at l.after in
    let before : num p (length p) * 95 ^ (n - length p) * (upper hi).bottom < (upper hi).top * (95 ^ length p * 95 ^ (n - length p)) = rw (number, bottom) at l.before in
    record {
      after = lt_of_mul-lt-mul_right (95 ^ (n - length p)) (omega arith);
      before = lt_of_mul-lt-mul_right (95 ^ (n - length p)) (omega arith);
    }

-- a position of at most n digits whose number lies between the ends fits there
pub number-fits : (lo hi : Option (List ℕ)) (p : List ℕ) (n : ℕ) → IsEnd lo → IsEnd hi → IsPosition p → length p ≤ n → LiesBetween lo hi n (num p n) → FitsBetween lo hi p
number-fits lo hi p n e f h short l = (fits-inside lo hi p e f).1 (inside-lies lo hi p h (lies-trimmed lo hi p n short l))

-- where no step lies between the ends, no position does
pub no_step-fits : (lo hi : Option (List ℕ)) (p : List ℕ) → IsEnd lo → IsEnd hi → HoldNoStep lo hi → ¬ FitsBetween lo hi p
no_step-fits lo hi p e f h fits = shut-outside lo hi (λ n most. each n most) p ((fits-inside lo hi p e f).0 fits)
  where
    each : (n : ℕ) → n ≤ 128 → IsShut lo hi n
    each n most = elim (cases_lt n 4) [
      | inl lt ↦ shut-below lo hi 4 n (omega arith) (h 4 (omega arith) (omega arith))
      | inr ge ↦ h n ge most
    ]

pub step_after-fits : (last p : List ℕ) → IsPosition last → IsStepAfter last p → FitsBetween (Some last) None p
step_after-fits last p e h = number-fits (Some last) None p h.digits e tt h.position h.short h.least.holds

pub step_before-fits : (first p : List ℕ) → IsPosition first → IsStepBefore first p → FitsBetween None (Some first) p
step_before-fits first p e h = number-fits None (Some first) p h.digits tt e h.position h.short h.greatest.holds

-- two lengths that are the fewest, where something lies between the ends at each, are one
one-length : (lo hi : Option (List ℕ)) (n k m l : ℕ) → AreFewest lo hi n → AreFewest lo hi k → LiesBetween lo hi n m → LiesBetween lo hi k l → n ≡ k
one-length lo hi n k m l a b h i = elim (cases_order n k) [
  | inl same ↦ same
  | inr (inl lt) ↦ absurd (b.fewer n a.least lt m h)
  | inr (inr gt) ↦ absurd (a.fewer k b.least gt l i)
]

-- there is one step at most
pub step_after-only : (last p q : List ℕ) → IsStepAfter last p → IsStepAfter last q → q ≡ p
step_after-only last p q a b =
    let n : b.digits ≡ a.digits = one-length (Some last) None b.digits a.digits (num q b.digits) (num p a.digits) b.fewest a.fewest b.least.holds a.least.holds in
    let least : IsLeast (LiesBetween (Some last) None a.digits) (num q a.digits) = rw n at b.least in
    let short : length q ≤ a.digits = rw n at b.short in
    same-digits a.digits q p b.position a.position short a.short (omega (arith, least.least (num p a.digits) a.least.holds, a.least.least (num q a.digits) least.holds))

pub step_before-only : (first p q : List ℕ) → IsStepBefore first p → IsStepBefore first q → q ≡ p
step_before-only first p q a b =
    let n : b.digits ≡ a.digits = one-length None (Some first) b.digits a.digits (num q b.digits) (num p a.digits) b.fewest a.fewest b.greatest.holds a.greatest.holds in
    let greatest : IsGreatest (LiesBetween None (Some first) a.digits) (num q a.digits) = rw n at b.greatest in
    let short : length q ≤ a.digits = rw n at b.short in
    same-digits a.digits q p b.position a.position short a.short (omega (arith, greatest.greatest (num p a.digits) a.greatest.holds, a.greatest.greatest (num q a.digits) greatest.holds))

-- while the first four digits leave room, the step is one in the fourth
step_after-four : (s p : List ℕ) → IsPosition s → num s 4 + 1 < 95 ^ 4 → IsStepAfter s p → (length p ≤ 4) × (num p 4 ≡ num s 4 + 1)
step_after-four s p e room h =
    let least : IsLeast (LiesBetween (Some s) None 4) (num s 4 + 1) = lies-least (Some s) None 4 e tt room in
    let n : h.digits ≡ 4 = one-length (Some s) None h.digits 4 (num p h.digits) (num s 4 + 1) h.fewest (fewest-four (Some s) None) h.least.holds least.holds in
    let its : IsLeast (LiesBetween (Some s) None 4) (num p 4) = rw n at h.least in
    (rw n at h.short, omega (arith, its.least (num s 4 + 1) least.holds, least.least (num p 4) its.holds))

step_before-four : (s p : List ℕ) → IsPosition s → 1 < num s 4 → IsStepBefore s p → (length p ≤ 4) × (num s 4 ≤ num p 4 + 1)
step_before-four s p e room h =
    let m = least_after (Some s) 4 - 1 in
    let greatest : IsGreatest (LiesBetween None (Some s) 4) m = lies-greatest None (Some s) 4 m tt e (omega arith) (omega arith) in
    let n : h.digits ≡ 4 = one-length None (Some s) h.digits 4 (num p h.digits) m h.fewest (fewest-four None (Some s)) h.greatest.holds greatest.holds in
    let its : IsGreatest (LiesBetween None (Some s) 4) (num p 4) = rw n at h.greatest in
    (rw n at h.short, omega (arith, its.greatest m greatest.holds))

-- where k steps lead, while there is room
after-run : (k : ℕ) (s p : List ℕ) → IsPosition s → AreSteps IsStepAfter k s p → num s 4 + k < 95 ^ 4 → IsPosition p × (num p 4 ≡ num s 4 + k)
after-run zero s p e run room = rw run (e, omega arith)
after-run (suc k) s p e run room =
    let so_far = after-run k s run.0 e run.1 (omega arith) in
    (run.2.position, omega (arith, so_far.1, (step_after-four run.0 p so_far.0 (omega (arith, so_far.1)) run.2).1))

before-run : (k : ℕ) (s p : List ℕ) → IsPosition s → AreSteps IsStepBefore k s p → k < num s 4 → IsPosition p × (num s 4 ≤ num p 4 + k)
before-run zero s p e run room = rw run (e, omega arith)
before-run (suc k) s p e run room =
    let so_far = before-run k s run.0 e run.1 (omega arith) in
    (run.2.position, omega (arith, so_far.1, (step_before-four run.0 p so_far.0 (omega (arith, so_far.1)) run.2).1))

pub steps_after-go_on : (k : ℕ) (s p : List ℕ) → IsPosition s → AreSteps IsStepAfter k s p → num s 4 + k + 1 < 95 ^ 4 → HoldNoStep (Some p) None → ⊥
steps_after-go_on k s p e run room none =
    let there = after-run k s p e run (omega arith) in
    none 4 (omega arith) (omega arith) (num p 4 + 1) (lies-least (Some p) None 4 there.0 tt (omega (arith, there.1))).holds

pub steps_before-go_on : (k : ℕ) (s p : List ℕ) → IsPosition s → AreSteps IsStepBefore k s p → k + 1 < num s 4 → HoldNoStep None (Some p) → ⊥
steps_before-go_on k s p e run room none =
    let there = before-run k s p e run (omega arith) in
    let m = least_after (Some p) 4 - 1 in
    none 4 (omega arith) (omega arith) m (lies-greatest None (Some p) 4 m tt there.0 (omega (arith, there.1)) (omega (arith, there.1))).holds

pub steps_after-short : (k : ℕ) (s p : List ℕ) → IsPosition s → AreSteps IsStepAfter (suc k) s p → num s 4 + k + 1 < 95 ^ 4 → length p ≤ 4
steps_after-short k s p e run room =
    let so_far = after-run k s run.0 e run.1 (omega arith) in
    (step_after-four run.0 p so_far.0 (omega (arith, so_far.1)) run.2).0

pub steps_before-short : (k : ℕ) (s p : List ℕ) → IsPosition s → AreSteps IsStepBefore (suc k) s p → k + 1 < num s 4 → length p ≤ 4
steps_before-short k s p e run room =
    let so_far = before-run k s run.0 e run.1 (omega arith) in
    (step_before-four run.0 p so_far.0 (omega (arith, so_far.1)) run.2).0

-- the middle of all, and its first four digits
middle-pos : IsPosition (codes "O")
middle-pos = middle-position None None (codes "O") tt tt middle-alone

middle-four : num (codes "O") 4 ≡ 40296625
unfolding num
middle-four = refl

pub millions-after : (k : ℕ) (p : List ℕ) → k < 41153999 → AreSteps IsStepAfter k (codes "O") p → HoldNoStep (Some p) None → ⊥
millions-after k p few run = steps_after-go_on k (codes "O") p middle-pos run (omega (arith, middle-four))

pub millions-before : (k : ℕ) (p : List ℕ) → k < 40296624 → AreSteps IsStepBefore k (codes "O") p → HoldNoStep None (Some p) → ⊥
millions-before k p few run = steps_before-go_on k (codes "O") p middle-pos run (omega (arith, middle-four))

-- one digit more of a fraction of so many steps
pub digit-more : (s : List ℕ) (n steps rest : ℕ) → length s ≡ n → num s n * 81450625 + rest ≡ steps * 95 ^ n
    → num (s ++ (32 + 95 * rest / 81450625) ∷ []) (n + 1) * 81450625 + 95 * rest % 81450625 ≡ steps * 95 ^ (n + 1)
digit-more s n steps rest len e = rw (ap (λ k. steps * 95 ^ k) (add-one n), pow-suc) (omega (arith, e, num-push s (32 + 95 * rest / 81450625) n len))

-- four digits leave no rest
pub rest-none : (s : List ℕ) (steps rest : ℕ) → num s 4 * 81450625 + rest ≡ steps * 95 ^ 4 → rest < 81450625 → rest ≡ 0
rest-none s steps rest e h = omega arith

-- where no rest is left, the digits are the fraction
pub digits-all : (s : List ℕ) (n steps rest : ℕ) → n ≤ 4 → length s ≡ n → num s n * 81450625 + rest ≡ steps * 95 ^ n → rest ≡ 0 → num s 4 ≡ steps
digits-all s n steps rest few len e none =
    let long : num s 4 ≡ num s n * 95 ^ (4 - n) = num-long s n 4 (omega arith) few in
    let split : 95 ^ 4 ≡ 95 ^ n * 95 ^ (4 - n) = power-split n 4 few in
    let whole : num s n * (95 ^ n * 95 ^ (4 - n)) ≡ steps * 95 ^ n = rw (← split) (omega (arith, e)) in
    let le : num s 4 ≤ steps = le_of_mul-le-mul_right {k = 95 ^ n} (omega (arith, whole, ap (λ x. x * 95 ^ n) long)) (power-pos n) in
    let ge : steps ≤ num s 4 = le_of_mul-le-mul_right {k = 95 ^ n} (omega (arith, whole, ap (λ x. x * 95 ^ n) long)) (power-pos n) in
    omega arith

-- an end with the greatest first digits, and the end of all
pub narrow-last : (s : List ℕ) (n : ℕ) → IsPosition s → num s n < 95 ^ n → 95 ^ n ≤ num s n + 1 → IsNarrow (Some s) None n
narrow-last s n e most least = narrow-next (Some s) None n e tt (omega arith)

-- one digit more, which is the greatest
pub narrow-last_more : (s : List ℕ) (n d : ℕ) → IsPosition s → IsNarrow (Some s) None n → d ≡ digit s n → 94 ≤ d → IsNarrow (Some s) None (n + 1)
narrow-last_more s n d e h at great =
    narrow-suc (Some s) None n d 95 e tt tt h (omega (arith, num-next s n, at)) (rw (add-one, pow-suc) (omega arith)) (omega arith)

-- or isn't: then one more is a step
pub least-last : (s : List ℕ) (n d : ℕ) → IsPosition s → IsNarrow (Some s) None n → d ≡ digit s n → d < 94 → IsLeast (LiesBetween (Some s) None (n + 1)) (95 * num s n + (d + 1))
least-last s n d e h at small =
    let power : 95 ^ (n + 1) ≡ 95 ^ n * 95 = ap (λ k. 95 ^ k) (add-one n) ∙ pow-suc 95 n in
    let next : 95 ^ n ≡ num s n + 1 = h.next in
    let more : num s (n + 1) + 1 ≡ 95 * num s n + (d + 1) = omega (arith, num-next s n, at) in
    subst (IsLeast (LiesBetween (Some s) None (n + 1))) more (lies-least (Some s) None (n + 1) e tt (omega (arith, power, next, more)))

-- one digit more before a position, which leaves nothing before it
pub narrow-first_more : (t : List ℕ) (n c : ℕ) → IsPosition t → IsNarrow None (Some t) n → least_after (Some t) (n + 1) + 95 ≡ 95 * least_after (Some t) n + c → c ≤ 1 → IsNarrow None (Some t) (n + 1)
narrow-first_more t n c f h at small = narrow-suc None (Some t) n 0 c tt f tt h refl at (omega arith)

-- or leaves something: then one less is a step
pub greatest-first : (t : List ℕ) (n c : ℕ) → IsPosition t → IsNarrow None (Some t) n → least_after (Some t) (n + 1) + 95 ≡ 95 * least_after (Some t) n + c → 1 < c → IsGreatest (LiesBetween None (Some t) (n + 1)) (c - 1)
greatest-first t n c f h at great = lies-greatest None (Some t) (n + 1) (c - 1) tt f (omega (arith, h.next, at)) (omega arith)

-- the step behind a position at four digits, and at more
pub step_after-short : (last p : List ℕ) → IsPosition last → IsPosition p → length p ≤ 4 → num p 4 ≡ num last 4 + 1 → num last 4 + 1 < 95 ^ 4 → IsStepAfter last p
step_after-short last p e h short at room = record {
  position = h;
  digits = 4;
  fewest = fewest-four (Some last) None;
  short = short;
  least = rw at (lies-least (Some last) None 4 e tt room);
}

pub step_after-long : (last p : List ℕ) (n m : ℕ) → IsPosition p → AreFewest (Some last) None n → length p ≡ n → num p n ≡ m → IsLeast (LiesBetween (Some last) None n) m → IsStepAfter last p
step_after-long last p n m h fewest len at least = record { position = h; digits = n; fewest = fewest; short = omega arith; least = rw at least }

-- the step before a position at four digits, and at more
pub step_before-short : (first p : List ℕ) (end : ℕ) → IsPosition first → IsPosition p → length p ≤ 4 → end ≡ least_after (Some first) 4 → num p 4 ≡ end - 1 → 1 < end → IsStepBefore first p
step_before-short first p end e h short is at room = record {
  position = h;
  digits = 4;
  fewest = fewest-four None (Some first);
  short = short;
  greatest = rw at (lies-greatest None (Some first) 4 (end - 1) tt e (omega arith) (omega arith));
}

pub step_before-long : (first p : List ℕ) (n m : ℕ) → IsPosition p → AreFewest None (Some first) n → length p ≡ n → num p n ≡ m → IsGreatest (LiesBetween None (Some first) n) m → IsStepBefore first p
step_before-long first p n m h fewest len at greatest = record { position = h; digits = n; fewest = fewest; short = omega arith; greatest = rw at greatest }

-- where nothing of four digits lies before a position, and the beginning of all
pub narrow-first : (t : List ℕ) (n end : ℕ) → IsPosition t → end ≡ least_after (Some t) n → 0 < end → end ≤ 1 → IsNarrow None (Some t) n
narrow-first t n end f is some few = narrow-next None (Some t) n tt f (omega arith)

-- at each length something lies before a position or touches it
pub end-some : (t : List ℕ) (n : ℕ) → IsPosition t → 0 < least_after (Some t) n
end-some t n f = apart None (Some t) n tt f tt

-- digits that end in a new one, which isn't 0
pub last-pushed : (s : List ℕ) (b n : ℕ) → length s ≡ n → b ≢ 32 → get_or (s ++ b ∷ []) (n + 1 - 1) 32 ≢ 32
last-pushed s b n len some e =
    let at : length s ≡ n + 1 - 1 = omega arith in
    some (sym (get_or-append_seam s b [] 32) ∙ ap (λ k. get_or (s ++ b ∷ []) k 32) at ∙ e)
