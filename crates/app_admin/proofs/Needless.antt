-- Recovery finds the same without the segments above the one that it takes.
use Rattle.std.proofs.Common.{◌≡◌, inl, inr, ℕ, true, false, List, [], ◌∷◌, Option, Some, refl, sym, ap, subst, ◌∙◌, true≢false}
use Rattle.std.proofs.lemmas.Bool.{cases_Bool}
use Rattle.std.proofs.lemmas.Bool.Decides.{eqb_tells}
use Rattle.canvas_shelf.specs.Disk.{Content}
use Rattle.canvas_shelf.specs.Records.{texts}
use Rattle.canvas_journal.specs.declared.reading.Reading.{Reading}
use Rattle.canvas_journal.specs.declared.reading.Reading.TheVariants.{PassedOver}
use Rattle.canvas_journal.specs.Found.{Finds, IsState, ReadsRecords, Taken}
use Rattle.canvas_journal.specs.Meaning.{Versioned}
use Rattle.canvas_journal.proofs.Once.{reads_once}
use Rattle.disk_integrity.specs.Losses.{is_taken}
use Rattle.app_admin.specs.Losing.{number_taken}
use Rattle.app_admin.specs.Taken.{Source, TakesFrom}
use Rattle.app_admin.specs.Torn.{TornAndRestAreAll, TornAreNeedless}

-- a number is taken where it is this one
is_itself : (n : ℕ) → is_taken (Some n) n ≡ true
is_itself n = elim (eqb_tells n n) [ inl (test, is) ↦ test | inr (test, differs) ↦ absurd (differs refl) ]

-- what is found below a segment that is passed over
below : (n : ℕ) (bytes : List ℕ) (older : Content) (s : Versioned) → ReadsRecords (texts bytes) PassedOver → Finds ((n, bytes) ∷ older) (IsState s) → Finds older (IsState s)
below n bytes older s passes (reading, reads, taken) =
    subst (λ (r : Reading). Taken n r (Finds older (IsState s)) (IsState s)) (reads_once (texts bytes) reading PassedOver reads passes) taken

-- what is found below a segment that isn't the taken one
on_below : (n : ℕ) (bytes : List ℕ) (older : Content) (source : Option Source) (s : Versioned) → TakesFrom ((n, bytes) ∷ older) source → Finds ((n, bytes) ∷ older) (IsState s)
    → is_taken (number_taken source) n ≡ false → TakesFrom older source × Finds older (IsState s)
on_below n bytes older source s (inl (passes, rest)) finds gone = (rest, below n bytes older s passes finds)
on_below n bytes older source s (inr (version, behind, opens, is)) finds gone =
    absurd (true≢false (sym (ap (λ (o : Option Source). is_taken (number_taken o) n) is ∙ is_itself n) ∙ gone))

pub torn_are_needless : TornAreNeedless
torn_are_needless [] source s takes finds = finds
torn_are_needless ((n, bytes) ∷ older) source s takes finds = elim (cases_Bool (is_taken (number_taken source) n)) [
  | inl here ↦ rw here finds
  | inr gone ↦ let on = on_below n bytes older source s takes finds gone in rw gone (torn_are_needless older source s on.0 on.1)
]

pub torn_and_rest_are_all : TornAndRestAreAll
torn_and_rest_are_all [] taken = refl
torn_and_rest_are_all ((n, bytes) ∷ older) taken = elim (cases_Bool (is_taken taken n)) [
  | inl here ↦ rw here refl
  | inr gone ↦ rw gone (ap (λ (l : List ℕ). n ∷ l) (torn_and_rest_are_all older taken))
]
