-- What waits in a queue, and what becomes of it.
use Rattle.std.specs.Prelude.{◌≡◌, ◌<◌, ◌≤◌, ◌+◌, ◌-◌, ◌==◌, ℕ, zero, suc, Bool, List, [], ◌∷◌, ◌++◌, All, Any, MatchOption, Option, drop, find, length, max, min, option_map, option_to_list, remove, slice_get, take}
use Rattle.std.specs.List.{position_or_len}
use Rattle.std.specs.List.Sorted.{IsPermutation}
use Rattle.std.specs.Option.{option_map_or}
use Rattle.net_listener.specs.declared.queue.Waiting.{Waiting}
use Rattle.net_listener.specs.declared.queue.Queue.{Queue}

-- what waits, the first that came at the front
abbrev pub waiting_of : {T : Type 0} → Queue T → List (Waiting T)
waiting_of q = q.waiting.items

-- as many may wait as before, and as long
abbrev pub KeepsLimits : {T : Type 0} → Queue T → Queue T → Type 0
KeepsLimits old new = (new.most ≡ old.most) × (new.millis ≡ old.millis)

-- when the last is due; 0 where none waits
abbrev pub last_until : {T : Type 0} → List (Waiting T) → ℕ
last_until ws = option_map_or (λ w. w.until) (slice_get ws (length ws - 1)) 0

-- what comes now under this number: it is due after as long as each may wait, and no earlier than those before it
abbrev pub coming : {T : Type 0} → Queue T → ℕ → ℕ → T → Waiting T
coming q now number item = record {
  number = number;
  until = max (min (now + q.millis) 18446744073709551615) (last_until (waiting_of q));
  item = item;
}

-- one more waits, behind all; where there was no room, the first has left
abbrev pub Puts : {T : Type 0} → Queue T → Queue T → Waiting T → Option (Waiting T) → Type 0
Puts old new one displaced =
    (waiting_of old ++ one ∷ [] ≡ option_to_list displaced ++ waiting_of new)
    × MatchOption displaced (length (waiting_of old) < old.most) (λ _. length (waiting_of old) ≡ old.most)

-- it is found by this number
abbrev pub has_number : {T : Type 0} → ℕ → Waiting T → Bool
has_number number w = w.number == number

-- where the first with this number waits; behind all where none has it
abbrev pub place_of : {T : Type 0} → ℕ → List (Waiting T) → ℕ
place_of number ws = position_or_len (has_number number) ws

-- the first with this number has left, if there was one, and no other
abbrev pub Takes : {T : Type 0} → Queue T → Queue T → ℕ → Option (Waiting T) → Type 0
Takes old new number taken =
    (taken ≡ find (has_number number) (waiting_of old)) × (waiting_of new ≡ remove (waiting_of old) (place_of number (waiting_of old)))

-- none that waits is due yet, or the first was due and has left
abbrev pub EndsFirst : {T : Type 0} → Queue T → Queue T → ℕ → Option (Waiting T) → Type 0
EndsFirst old new now ended =
    MatchOption ended
    (All (λ w. now < w.until) (waiting_of old) × (waiting_of new ≡ waiting_of old))
    (λ first. (first.until ≤ now) × (waiting_of old ≡ first ∷ waiting_of new))

-- the first n have left: they were due, and none that waits is
abbrev pub DropsDue : {T : Type 0} → Queue T → Queue T → ℕ → ℕ → Type 0
DropsDue old new now n =
    (n ≤ length (waiting_of old)) × (waiting_of new ≡ drop n (waiting_of old))
    × All (λ w. w.until ≤ now) (take n (waiting_of old)) × All (λ w. now < w.until) (waiting_of new)

-- this is when the first is due that waits, and none is before
abbrev pub IsNextDue : {T : Type 0} → List (Waiting T) → ℕ → Type 0
IsNextDue ws due = Any (λ w. w.until ≡ due) ws × All (λ w. due ≤ w.until) ws

-- what waits first under this number
abbrev pub Shows : {T : Type 0} → Queue T → ℕ → Option T → Type 0
Shows q number item = item ≡ option_map (λ w. w.item) (find (has_number number) (waiting_of q))

-- Nothing is lost and nothing is doubled: what waited and what came are what waits and what left.
abbrev pub Accounts : {T : Type 0} → Queue T → List (Waiting T) → Queue T → List (Waiting T) → Type 0
Accounts old came new left = IsPermutation (waiting_of old ++ came) (waiting_of new ++ left)

-- so many calls one after the other, with all that came and all that left
abbrev pub Runs : {T : Type 0} → ℕ → Queue T → List (Waiting T) → Queue T → List (Waiting T) → Type 0
Runs zero q came r left = (waiting_of r ≡ waiting_of q) × (came ≡ []) × (left ≡ [])
Runs {T} (suc n) q came r left =
    (before : Queue T) × (earlier : List (Waiting T)) × (gone : List (Waiting T)) × (last : List (Waiting T)) × (next : List (Waiting T))
    × Runs n q earlier before gone × Accounts before last r next × (came ≡ earlier ++ last) × (left ≡ gone ++ next)

-- whatever is called, all that came waits or has left, each once
abbrev pub LosesNone : {T : Type 0} → Queue T → Type 0
LosesNone {T} q = (n : ℕ) (came left : List (Waiting T)) (r : Queue T) → Runs n q came r left → IsPermutation came (waiting_of r ++ left)
