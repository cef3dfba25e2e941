-- An owner's transactions follow each other, and what comes late or twice changes nothing.
use Rattle.std.proofs.Common.{◌≡◌, ◌<◌, ◌≤◌, ◌⊎◌, inl, inr, ℕ, true, false, Bool, List, [], ◌∷◌, Option, Some, None, refl, sym, ◌∙◌, ap, arith, ◌==◌, ◌&&◌, ◌||◌}
use Rattle.std.specs.List.{AllByRecursion}
use Rattle.std.proofs.lemmas.Bool.{cases_Bool, eq-eqb, ne_eqb}
use Rattle.canvas_etcd.specs.Stores.{Transaction}
use Rattle.canvas_etcd.specs.declared.turn.OwnerMark.{OwnerMark}
use Rattle.canvas_etcd.specs.declared.turn.Turn.{Turn}
use Rattle.canvas_etcd.specs.Turns.{Owned, OwnerStep, Commits, Ends, IsFrom, IsBeforeMark, IsDoneOnce, IsRefused, Rises, WritesFrom, WritesAnother, EachRepeatIsDoneOnce, EachLateOneChangesNothing, EachPutBackIsRefused, EachToldOneWasDone, committed, is_told, run, says, stepped}

-- ---- marks

both_false : (a : Bool) → (a && false) ≡ false
both_false true = refl
both_false false = refl

either_first : (a : Bool) → (a || false) ≡ true → a ≡ true
either_first true h = refl
either_first false h = h

says_self : (m : OwnerMark) → says (Some m) (Some m) ≡ true
says_self m = rw (eq-eqb m.owner m.owner refl, eq-eqb m.number m.number refl) refl

-- marks of two owners, or of two numbers
abbrev AreApart : OwnerMark → OwnerMark → Type 0
AreApart n m = (n.owner ≡ m.owner → ⊥) ⊎ (n.number ≡ m.number → ⊥)

apart : (n m : OwnerMark) → AreApart n m → says (Some n) (Some m) ≡ false
apart n m (inl other) = rw (ne_eqb n.owner m.owner other) refl
apart n m (inr other) = rw (ne_eqb n.number m.number other) (both_false (n.owner == m.owner))

-- ---- twice

once : (turn : Turn) (changes : List Transaction) (s : Owned) → says (Some turn.to) turn.from ≡ false → committed turn changes (committed turn changes s) ≡ committed turn changes s
once turn changes s other = elim (cases_Bool (says s.mark turn.from)) [
  | inl is ↦ rw is (rw other refl)
  | inr isnt ↦ rw isnt (rw isnt refl)
]

told_again : (turn : Turn) (changes : List Transaction) (s : Owned) → says (Some turn.to) turn.from ≡ false → is_told turn s ≡ true → is_told turn (committed turn changes s) ≡ true
told_again turn changes s other told = elim (cases_Bool (says s.mark turn.from)) [
  | inl is ↦ rw is (rw (other, says_self turn.to) refl)
  | inr isnt ↦ rw isnt told
]

pub repeats : EachRepeatIsDoneOnce
repeats turn changes s other = record { once = once turn changes s other; told = told_again turn changes s other }

-- ---- late

-- the owner's key isn't there, or its mark isn't below this one
abbrev StandsFrom : OwnerMark → Option OwnerMark → Type 0
StandsFrom least None = Unit {0}
StandsFrom least (Some n) = IsFrom least n

step_from : (least : OwnerMark) (step : OwnerStep) (s : Owned) → WritesFrom least step → StandsFrom least s.mark → StandsFrom least (stepped step s).mark
step_from least (Commits turn changes) s writes stands = elim (cases_Bool (says s.mark turn.from)) [
  | inl is ↦ rw is writes
  | inr isnt ↦ rw isnt stands
]
step_from least Ends s writes stands = tt

run_from : (least : OwnerMark) (steps : List OwnerStep) (s : Owned) → AllByRecursion (WritesFrom least) steps → StandsFrom least s.mark → StandsFrom least (run steps s).mark
run_from least [] s writes stands = stands
run_from least (step ∷ steps) s writes stands = run_from least steps (stepped step s) writes.1 (step_from least step s writes.0 stands)

above : (last : OwnerMark) (turn : Turn) (mark : Option OwnerMark) → Rises last turn → StandsFrom turn.to mark → says mark (Some last) ≡ false
above last turn None rises stands = refl
above last turn (Some n) rises (inl other) = apart n last (inl (λ same. other (same ∙ sym rises.owner)))
above last turn (Some n) rises (inr up) = apart n last (inr (λ same. omega (arith, same, up, rises.number)))

begins_from : (least : OwnerMark) (mark : Option OwnerMark) → mark ≡ Some least → StandsFrom least mark
begins_from least mark is = rw is (inr (omega arith))

unchanged : (last : OwnerMark) (turn : Turn) (changes : List Transaction) (s : Owned) → turn.from ≡ Some last → says s.mark (Some last) ≡ false → committed turn changes s ≡ s
unchanged last turn changes s from other = rw from (rw other refl)

pub late : EachLateOneChangesNothing
late last turn changes later s rises is writes =
    unchanged last turn changes (run later s) rises.from
    (above last turn (run later s).mark rises (run_from turn.to later s writes (begins_from turn.to s.mark is)))

-- ---- put back

before_last : (last : OwnerMark) (mark : Option OwnerMark) → IsBeforeMark last mark → says mark (Some last) ≡ false
before_last last None before = refl
before_last last (Some n) (inl other) = apart n last (inl other)
before_last last (Some n) (inr below) = apart n last (inr (λ same. omega (arith, same, below)))

before_next : (last : OwnerMark) (turn : Turn) (mark : Option OwnerMark) → Rises last turn → IsBeforeMark last mark → says mark (Some turn.to) ≡ false
before_next last turn None rises before = refl
before_next last turn (Some n) rises (inl other) = apart n turn.to (inl (λ same. other (same ∙ rises.owner)))
before_next last turn (Some n) rises (inr below) = apart n turn.to (inr (λ same. omega (arith, same, below, rises.number)))

pub put_back : EachPutBackIsRefused
put_back last turn changes s rises before = record {
  same = unchanged last turn changes s rises.from (before_last last s.mark before);
  told = rw rises.from (rw (before_last last s.mark before, before_next last turn s.mark rises before) refl);
}

-- ---- told

step_another : (mark : OwnerMark) (step : OwnerStep) (s : Owned) → WritesAnother mark step → says s.mark (Some mark) ≡ false → says (stepped step s).mark (Some mark) ≡ false
step_another mark (Commits turn changes) s writes other = elim (cases_Bool (says s.mark turn.from)) [
  | inl is ↦ rw is writes
  | inr isnt ↦ rw isnt other
]
step_another mark Ends s writes other = refl

run_another : (mark : OwnerMark) (steps : List OwnerStep) (s : Owned) → AllByRecursion (WritesAnother mark) steps → says s.mark (Some mark) ≡ false → says (run steps s).mark (Some mark) ≡ false
run_another mark [] s writes other = other
run_another mark (step ∷ steps) s writes other = run_another mark steps (stepped step s) writes.1 (step_another mark step s writes.0 other)

pub told_was_done : EachToldOneWasDone
told_was_done turn steps s other writes told =
    let no : says (run steps s).mark (Some turn.to) ≡ false = run_another turn.to steps s writes other in
    either_first (says (run steps s).mark turn.from) (rw no at told)
