-- Positions and names as texts.
use Rattle.std.proofs.Common.{◌≡◌, ℕ, List, [], ◌∷◌, slice_index_or, Bool, true, false, cond, Option, Some, None, refl, arith, All}
use Rattle.std.specs.List.{list_all}
use Rattle.std.proofs.lemmas.List.Elements.{All-head, All-tail}
use Rattle.std.proofs.lemmas.List.Folds.{list_all_at}
use Rattle.canvas_model.specs.Position.{IsDigitByte, IsPosition}
use Rattle.canvas_pos.specs.Fault.{IsFault}
use Rattle.canvas_pos.specs.declared.PosError.{PosError}
use Rattle.canvas_pos.specs.declared.PosError.TheVariants.{Empty, TooLong, BadByte, TrailingZero, Memory}
use Rattle.canvas_value.proofs.NameText.{is_name-from, not_name}
use Rattle.serde_json.specs.Data.{string}
use Rattle.canvas_codec.specs.Faults.{RefusesShape}
use Rattle.canvas_forms.specs.Places.{pos_form, pos_fault, is_digit, is_position}

digit_passes : (b : ℕ) → IsDigitByte b → is_digit b ≡ true
digit_passes b h = grind (arith, h.low, h.high)

digits_pass : (s : List ℕ) → All IsDigitByte s → list_all is_digit s ≡ true
digits_pass [] h = refl
digits_pass (b ∷ bs) h = rw (digit_passes b (All-head IsDigitByte b bs h), digits_pass bs (All-tail IsDigitByte b bs h)) refl

digit_case : (b : ℕ) (t : Bool) → is_digit b ≡ t → (IsDigitByte b → ⊥) → t ≡ false
digit_case b true e n = absurd (n (record { low = grind (arith, e); high = grind (arith, e) }))
digit_case b false e n = refl

pub is_position_from : (s : List ℕ) → IsPosition s → is_position s ≡ true
is_position_from s h = grind (arith, h.not_empty, h.short, digits_pass s h.digits, h.last)

-- a refusal for another cause than memory
pub not_position : (s : List ℕ) (f : PosError) → (f ≡ Memory → ⊥) → IsFault s f → is_position s ≡ false
not_position s Empty k h = grind (arith, h)
not_position s TooLong k h = grind (arith, h)
not_position s (BadByte i) k h =
    let bad = list_all_at is_digit s i 32 h.1.within (digit_case (slice_index_or s i 32) (is_digit (slice_index_or s i 32)) refl h.1.bad) in
    grind (arith, bad)
not_position s TrailingZero k h = grind (arith, h.0, h.1, h.3)
not_position s Memory k h = absurd (k refl)

text_none : (b : Bool) (s : List ℕ) → b ≡ false → cond {A = Option (List ℕ × Bool)} b (Some (s, true)) None ≡ None
text_none b s e = rw e refl

pub pos_refused : (s : List ℕ) (f : PosError) → IsFault s f → RefusesShape (pos_form.read (string s)) (pos_fault f)
pos_refused s Empty h = text_none (is_position s) s (not_position s Empty (λ e. cc) h)
pos_refused s TooLong h = text_none (is_position s) s (not_position s TooLong (λ e. cc) h)
pos_refused s (BadByte i) h = text_none (is_position s) s (not_position s (BadByte i) (λ e. cc) h)
pos_refused s TrailingZero h = text_none (is_position s) s (not_position s TrailingZero (λ e. cc) h)
pos_refused s Memory h = tt

-- what a test of names tells, for the prover
pub ruleset name_tests = (is_name-from, not_name)
