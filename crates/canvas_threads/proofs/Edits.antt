-- What is known of the objects of edits.
use Rattle.std.proofs.Common.{◌≡◌, ℕ, zero, suc, ◌<◌, List, [], ◌∷◌, refl, sym, arith}
use Rattle.std.specs.Prelude.{Bool, true, false, ◌||◌, Some}
use Rattle.std.specs.List.{list_any}
use Rattle.canvas_model.specs.declared.ObjId.{ObjId}
use Rattle.canvas_model.specs.Change.{Change, object_of}
use Rattle.canvas_model.specs.Numbered.{nth}
use Rattle.canvas_model.specs.View.{is_about}
use Rattle.canvas_model.proofs.Ids.{same_id_true}

-- one of the changes, by its number, which is about the object
abbrev pub IsAboutAt : ObjId → List Change → Type 0
IsAboutAt q changes = (i : ℕ) × (change : Change) × (0 < i) × (nth changes i ≡ Some change) × (object_of change ≡ q)

-- the same behind one more
behind : (q : ObjId) (first : Change) (changes : List Change) → IsAboutAt q changes → IsAboutAt q (first ∷ changes)
behind q first changes (zero, change, some, is, about) = absurd (omega (arith, some))
behind q first changes (suc i, change, some, is, about) = (suc (suc i), change, omega arith, is, about)

pub find_about : (q : ObjId) (changes : List Change) → list_any (is_about q) changes ≡ true → IsAboutAt q changes
find_about q [] h = absurd (cc)
find_about q (change ∷ changes) h = by (is_about q change) refl h (λ later. find_about q changes later)
  where
    by : (b : Bool) → is_about q change ≡ b → (b || list_any (is_about q) changes) ≡ true → (list_any (is_about q) changes ≡ true → IsAboutAt q changes) → IsAboutAt q (change ∷ changes)
    by true is h later = (1, change, omega arith, refl, sym (same_id_true q (object_of change) is))
    by false is h later = behind q change changes (later h)
