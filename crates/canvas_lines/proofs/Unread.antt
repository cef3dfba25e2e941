-- What can't be read in part can't be read whole.
use Rattle.std.proofs.Common.{◌≡◌, Result, Ok, Err, IfErr, ℕ, List, sym, subst, ◌∙◌}
use Rattle.std.specs.Prelude.{IsErrAnd}
use Rattle.canvas_model.specs.declared.ObjId.{ObjId}
use Rattle.canvas_lines.specs.Errors.{IsLineError, IsIdless}
use Rattle.canvas_lines.specs.Spelling.{SpellsIdFirst}
use Rattle.canvas_lines.specs.declared.error.LineError.{LineError}
use Rattle.canvas_lines.specs.declared.error.LineError.TheVariants.{Unreadable, Memory}

module _ {X Y : Type 0} (P : X → Type 0) (Q : Y → Type 0) (part : (y : Y) → Q y → (x : X) × P x) where
  error_of : (e : LineError) → IsLineError P e → IsLineError Q e
  error_of Unreadable none = λ y q. let p = part y q in none p.0 p.1
  error_of Memory none = tt

  -- the error of a part is passed on
  pub passed : {T : Type 0} (r : Result T LineError) (e : LineError) → IsErrAnd r (λ f. f ≡ e) → IsLineError P e → IfErr r (IsLineError Q)
  passed (Ok x) e is none = tt
  passed (Err f) e is none = subst (IsLineError Q) (sym is) (error_of e none)

-- a part that is never read
pub unread : {Y T : Type 0} (Q : Y → Type 0) (r : Result T LineError) (e : LineError) → IsErrAnd r (λ f. f ≡ e) → e ≡ Unreadable → ((y : Y) → Q y → ⊥) → IfErr r (IsLineError Q)
unread Q (Ok x) e is bad none = tt
unread Q (Err f) e is bad none = subst (IsLineError Q) (sym (is ∙ bad)) none

pub idless : {T : Type 0} (rest : List ℕ) (r : Result T LineError) (e : LineError) → IsErrAnd r (λ f. f ≡ e) → e ≡ Unreadable → ((id : ObjId) (more : List ℕ) → SpellsIdFirst rest id more → ⊥) → IfErr r (IsIdless rest)
idless rest (Ok x) e is bad none = tt
idless rest (Err f) e is bad none = (is ∙ bad, none)
