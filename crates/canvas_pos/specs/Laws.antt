-- The laws of positions: of their order, and of the position half way between two ends.
use Rattle.std.specs.Prelude.{◌≡◌, ◌↔◌, ℕ, ◌+◌, ◌≤◌, max, List, length, Option, None, codes}
use Rattle.std.specs.declared.cmp.Ordering.{Ordering}
use Rattle.std.specs.Ordering.{MatchOrdering, nat_cmp}
use Rattle.std.specs.Cmp.Lexicographic.{slice_cmp}
use Rattle.canvas_model.specs.Position.{IsPosition, IsSmaller}
use Rattle.canvas_model.specs.Middle.{AreInOrder, IsShut, IsMiddle, IsInside}
use Rattle.canvas_model.specs.Order.{IsBefore, AreApart, FitsBetween}
use Rattle.canvas_pos.specs.Ends.{IsEnd, end_length}

-- s and t compare as their fractions do
abbrev pub ComparesAsFractions : Ordering → List ℕ → List ℕ → Type 0
ComparesAsFractions order s t = MatchOrdering order (IsSmaller s t) (s ≡ t) (IsSmaller t s)

-- positions compare byte by byte as their fractions do
abbrev pub BytesCompareAsFractions : Type 0
BytesCompareAsFractions = (s t : List ℕ) → IsPosition s → IsPosition t → ComparesAsFractions (slice_cmp nat_cmp s t) s t

-- a position is before another, by bytes, exactly where its fraction is smaller
abbrev pub BeforeIffSmaller : Type 0
BeforeIffSmaller = (s t : List ℕ) → IsPosition s → IsPosition t → IsBefore s t ↔ IsSmaller s t

-- ends are apart, by bytes, exactly where their fractions are in order
abbrev pub ApartIffInOrder : Type 0
ApartIffInOrder = (lo hi : Option (List ℕ)) → IsEnd lo → IsEnd hi → AreApart lo hi ↔ AreInOrder lo hi

-- a position fits between ends, by bytes, exactly where its fraction is strictly between theirs
abbrev pub FitsIffInside : Type 0
FitsIffInside = (lo hi : Option (List ℕ)) (p : List ℕ) → IsEnd lo → IsEnd hi → FitsBetween lo hi p ↔ IsInside lo hi p

-- what is smaller than a second, which is smaller than a third, is smaller than the third
abbrev pub SmallerIsTransitive : Type 0
SmallerIsTransitive = (s t u : List ℕ) → IsSmaller s t → IsSmaller t u → IsSmaller s u

-- the middle is a position
abbrev pub EachMiddleIsPosition : Type 0
EachMiddleIsPosition = (lo hi : Option (List ℕ)) (p : List ℕ) → IsEnd lo → IsEnd hi → IsMiddle lo hi p → IsPosition p

-- the middle is strictly between the ends
abbrev pub EachMiddleIsInside : Type 0
EachMiddleIsInside = (lo hi : Option (List ℕ)) (p : List ℕ) → IsEnd lo → IsEnd hi → IsMiddle lo hi p → IsInside lo hi p

-- p is the only middle, if there is one
abbrev pub IsOnlyMiddle : Option (List ℕ) → Option (List ℕ) → List ℕ → Type 0
IsOnlyMiddle lo hi p = (q : List ℕ) → IsMiddle lo hi q → q ≡ p

-- there is one middle at most
abbrev pub EachMiddleIsOnly : Type 0
EachMiddleIsOnly = (lo hi : Option (List ℕ)) (p : List ℕ) → IsEnd lo → IsEnd hi → IsMiddle lo hi p → IsOnlyMiddle lo hi p

-- the middle has at most one digit more than the longer end
abbrev pub EachMiddleIsShort : Type 0
EachMiddleIsShort = (lo hi : Option (List ℕ)) (p : List ℕ) → IsEnd lo → IsEnd hi → AreInOrder lo hi → IsMiddle lo hi p → length p ≤ max (end_length lo) (end_length hi) + 1

-- no position is strictly between the ends
abbrev pub NoneIsInside : Option (List ℕ) → Option (List ℕ) → Type 0
NoneIsInside lo hi = (p : List ℕ) → ¬ IsInside lo hi p

-- no position fits between the ends
abbrev pub NoneFits : Option (List ℕ) → Option (List ℕ) → Type 0
NoneFits lo hi = (p : List ℕ) → ¬ FitsBetween lo hi p

-- where nothing of at most 128 digits lies between the ends, no position is strictly between them
abbrev pub ShutEndsHoldNone : Type 0
ShutEndsHoldNone = (lo hi : Option (List ℕ)) → ((n : ℕ) → n ≤ 128 → IsShut lo hi n) → NoneIsInside lo hi

-- with no ends the middle is `O`
abbrev pub MiddleOfAll : Type 0
MiddleOfAll = IsMiddle None None (codes "O")
