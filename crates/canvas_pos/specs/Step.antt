-- The small steps behind a position and before it, by which a parent takes millions of children.
use Rattle.std.specs.Prelude.{◌≡◌, ℕ, zero, suc, ◌+◌, ◌^◌, ◌<◌, ◌≤◌, List, length, Option, Some, None, MatchOption, codes}
use Rattle.canvas_model.specs.Position.{IsPosition, num}
use Rattle.canvas_model.specs.Middle.{LiesBetween, IsLeast, IsGreatest, IsShut}
use Rattle.canvas_model.specs.Order.{FitsBetween}

-- with fewer than n digits, from four on, nothing lies between the ends; a position may have n
pub record AreFewest (lo hi : Option (List ℕ)) (n : ℕ) : Type 0 where
  pub least : 4 ≤ n
  pub most : n ≤ 128
  pub fewer : (k : ℕ) → 4 ≤ k → k < n → IsShut lo hi k

-- p is the smallest fraction behind `last` that has as many digits, or less: four, or as few more as something lies there with
pub record IsStepAfter (last p : List ℕ) : Type 0 where
  pub position : IsPosition p
  pub digits : ℕ
  pub fewest : AreFewest (Some last) None digits
  pub short : length p ≤ digits
  pub least : IsLeast (LiesBetween (Some last) None digits) (num p digits)

-- p is the greatest fraction before `first` that has as many digits, or less: four, or as few more as something lies there with
pub record IsStepBefore (first p : List ℕ) : Type 0 where
  pub position : IsPosition p
  pub digits : ℕ
  pub fewest : AreFewest None (Some first) digits
  pub short : length p ≤ digits
  pub greatest : IsGreatest (LiesBetween None (Some first) digits) (num p digits)

-- with four digits to 128 nothing lies between the ends
abbrev pub HoldNoStep : Option (List ℕ) → Option (List ℕ) → Type 0
HoldNoStep lo hi = (n : ℕ) → 4 ≤ n → n ≤ 128 → IsShut lo hi n

-- what stands a step behind a position: that fraction, or nothing where it would have more than 128 bytes
abbrev pub StepAfter : List ℕ → Option (List ℕ) → Type 0
StepAfter last r = MatchOption r (HoldNoStep (Some last) None) (IsStepAfter last)

-- what stands a step before a position: that fraction, or nothing where it would have more than 128 bytes
abbrev pub StepBefore : List ℕ → Option (List ℕ) → Type 0
StepBefore first r = MatchOption r (HoldNoStep None (Some first)) (IsStepBefore first)

-- a step behind a position is a position behind it
abbrev pub EachStepAfterFits : Type 0
EachStepAfterFits = (last p : List ℕ) → IsPosition last → IsStepAfter last p → FitsBetween (Some last) None p

-- a step before a position is a position before it
abbrev pub EachStepBeforeFits : Type 0
EachStepBeforeFits = (first p : List ℕ) → IsPosition first → IsStepBefore first p → FitsBetween None (Some first) p

-- p is the only step behind `last`, if there is one
abbrev pub IsOnlyStepAfter : List ℕ → List ℕ → Type 0
IsOnlyStepAfter last p = (q : List ℕ) → IsStepAfter last q → q ≡ p

-- p is the only step before `first`, if there is one
abbrev pub IsOnlyStepBefore : List ℕ → List ℕ → Type 0
IsOnlyStepBefore first p = (q : List ℕ) → IsStepBefore first q → q ≡ p

-- there is one step behind a position at most
abbrev pub EachStepAfterIsOnly : Type 0
EachStepAfterIsOnly = (last p : List ℕ) → IsStepAfter last p → IsOnlyStepAfter last p

-- there is one step before a position at most
abbrev pub EachStepBeforeIsOnly : Type 0
EachStepBeforeIsOnly = (first p : List ℕ) → IsStepBefore first p → IsOnlyStepBefore first p

-- so many steps, one from the end of the other, lead from s to p
abbrev pub AreSteps : (List ℕ → List ℕ → Type 0) → ℕ → List ℕ → List ℕ → Type 0
AreSteps step zero s p = p ≡ s
AreSteps step (suc k) s p = (q : List ℕ) × AreSteps step k s q × step q p

-- k steps behind s there is another step, while the number of the first four digits of s leaves room for it
abbrev pub StepsAfterGoOn : Type 0
StepsAfterGoOn = (k : ℕ) (s p : List ℕ) → IsPosition s → AreSteps IsStepAfter k s p → num s 4 + k + 1 < 95 ^ 4 → HoldNoStep (Some p) None → ⊥

-- k steps before s there is another step, while the number of the first four digits of s leaves room for it
abbrev pub StepsBeforeGoOn : Type 0
StepsBeforeGoOn = (k : ℕ) (s p : List ℕ) → IsPosition s → AreSteps IsStepBefore k s p → k + 1 < num s 4 → HoldNoStep None (Some p) → ⊥

-- each of these steps behind s has four bytes at most
abbrev pub StepsAfterStayShort : Type 0
StepsAfterStayShort = (k : ℕ) (s p : List ℕ) → IsPosition s → AreSteps IsStepAfter (suc k) s p → num s 4 + k + 1 < 95 ^ 4 → length p ≤ 4

-- each of these steps before s has four bytes at most
abbrev pub StepsBeforeStayShort : Type 0
StepsBeforeStayShort = (k : ℕ) (s p : List ℕ) → IsPosition s → AreSteps IsStepBefore (suc k) s p → k + 1 < num s 4 → length p ≤ 4

-- behind `O`, the first position of an empty parent, 41 million steps fit
abbrev pub MillionsFitAfter : Type 0
MillionsFitAfter = (k : ℕ) (p : List ℕ) → k < 41153999 → AreSteps IsStepAfter k (codes "O") p → HoldNoStep (Some p) None → ⊥

-- before `O` 40 million steps fit
abbrev pub MillionsFitBefore : Type 0
MillionsFitBefore = (k : ℕ) (p : List ℕ) → k < 40296624 → AreSteps IsStepBefore k (codes "O") p → HoldNoStep None (Some p) → ⊥
