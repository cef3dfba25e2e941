-- A text of two parts with a blank between them is cut in one way.
use Rattle.std.proofs.Common.{◌≡◌, ℕ, List, [], ◌∷◌, Result, Ok, Err, IfErr, IfOk, refl, sym, subst, ◌∙◌, append_assoc}
use Rattle.std.specs.Prelude.{IsErrAnd}
use Rattle.canvas_model.specs.Words.{Lacks, IsCut}
use Rattle.canvas_model.proofs.Cut.{cut_is, uncut}
use Rattle.canvas_lines.specs.Errors.{IsLineError, IsUncut, IsUnspelled}
use Rattle.canvas_lines.specs.declared.error.LineError.{LineError}
use Rattle.canvas_lines.proofs.Unread.{passed, unread}
use Rattle.canvas_edit_lines.specs.Words.{Spaced}

-- a fault that is no want of memory, and one that may be
pub line_error : {X : Type 0} (P : X → Type 0) (e : LineError) → IsUnspelled P e → IsLineError P e
line_error P e h = subst (IsLineError P) (sym h.0) h.1

-- what was read of a part is read of the whole
pub ok_of : {T E : Type 0} (r : Result T E) (P Q : T → Type 0) → ((t : T) → P t → Q t) → IfOk r P → IfOk r Q
ok_of (Ok t) P Q f h = f t h
ok_of (Err e) P Q f h = tt

-- what can't be read of a part can't be read of the whole
pub err_of : {T X Y : Type 0} (r : Result T LineError) (P : X → Type 0) (Q : Y → Type 0) → ((y : Y) → Q y → (x : X) × P x) → IfErr r (IsLineError P) → IfErr r (IsLineError Q)
err_of (Ok t) P Q part h = tt
err_of {T = T} (Err e) P Q part h = let r : Result T LineError = Err e in passed P Q part r e refl h

-- what was cut is spaced
pub spaced_of : (IsFirst IsRest : List ℕ → Type 0) (text word rest : List ℕ) → IsCut 32 text word rest → IsFirst word → IsRest rest → Spaced text IsFirst IsRest
spaced_of IsFirst IsRest text word rest cut first second = (word, rest, cut.parts ∙ sym (append_assoc word (32 ∷ []) rest), first, second)

-- what is so spelled has two parts, the first of them without a blank
pub record Shape {X Y Z : Type 0} (A : List ℕ → X → Type 0) (B : X → List ℕ → Y → Type 0) (Q : Z → Type 0) (text : List ℕ) : Type 0 where
  pub blank : (word : List ℕ) (x : X) → A word x → Lacks 32 word
  pub parts : (z : Z) → Q z → (x : X) × (y : Y) × Spaced text (λ word. A word x) (λ rest. B x rest y)

module _ {X Y Z : Type 0} {A : List ℕ → X → Type 0} {B : X → List ℕ → Y → Type 0} {Q : Z → Type 0} {text : List ℕ} (shape : Shape A B Q text) where
  none_uncut : Lacks 32 text → (z : Z) → Q z → ⊥
  none_uncut lacks z q = let p = shape.parts z q in let s = p.2 in uncut 32 text s.0 s.1 lacks (s.2 ∙ append_assoc s.0 (32 ∷ []) s.1)

  module _ (word rest : List ℕ) (cut : IsCut 32 text word rest) where
    both : (z : Z) → Q z → (x : X) × (y : Y) × A word x × B x rest y
    both z q =
        let p = shape.parts z q in
        let s = p.2 in
        let same = cut_is 32 text word rest s.0 s.1 cut (shape.blank s.0 p.0 s.3) (s.2 ∙ append_assoc s.0 (32 ∷ []) s.1) in
        (p.0, p.1, subst (λ word. A word p.0) (sym same.0) s.3, subst (λ rest. B p.0 rest p.1) (sym same.1) s.4)

    -- what can't be read of the rest can't be read of the whole
    pub no_rest : {T : Type 0} (P : Y → Type 0) → ((x : X) (y : Y) → A word x → B x rest y → P y) → (r : Result T LineError) → IfErr r (IsLineError P) → IfErr r (IsLineError Q)
    no_rest P one r none = err_of r P Q (λ z q. let b = both z q in (b.1, one b.0 b.1 b.2 b.3)) none

  module _ {T : Type 0} (r : Result T LineError) (e : LineError) (is : IsErrAnd r (λ f. f ≡ e)) where
    -- the text has no blank
    pub no_cut : IsUncut text e → IfErr r (IsLineError Q)
    no_cut none = unread Q r e is none.0 (none_uncut none.1)

    module _ (word rest : List ℕ) (cut : IsCut 32 text word rest) where
      -- the first part can't be read
      pub no_first : IsLineError (A word) e → IfErr r (IsLineError Q)
      no_first none = passed (A word) Q (λ z q. let b = both word rest cut z q in (b.0, b.2)) r e is none

      -- the rest can't be read
      pub no_second : (P : Y → Type 0) → ((x : X) (y : Y) → A word x → B x rest y → P y) → IsLineError P e → IfErr r (IsLineError Q)
      no_second P one none = passed P Q (λ z q. let b = both word rest cut z q in (b.1, one b.0 b.1 b.2 b.3)) r e is none
