-- Refusals that a client's calls tell, one after another.
use Rattle.std.proofs.Common.{◌≡◌, inl, inr, Bool, false, Option, Some, None, IsTrue, sym, subst, arith}
use Rattle.std.specs.Prelude.{◌↔◌, IsSomeAnd}
use Rattle.canvas_model.specs.Document.{Doc}
use Rattle.canvas_model.specs.Client.{Client}
use Rattle.canvas_model.specs.Local.{EditRequest, EditError, NotOpen, NotShown, TooDeep, ComesAfterNone, GoesTooDeep, IsHidden, Refuses}
use Rattle.canvas_client.specs.Asked.{NoneBefore, IsRefusal}
use Rattle.canvas_client.proofs.Drafted.{none_more}

-- a test that fails
pub not_so : {b : Bool} {P : Type 0} → IsTrue b ↔ P → b ≡ false → P → ⊥
not_so tells is p = let t = tells.1 p in absurd (cc)

module _ (client : Client) (r : EditRequest) where
  -- a refusal that isn't want of memory
  pub is_refusal : (e : Option EditError) → IsSomeAnd e (Refuses client r) → IsRefusal client r e
  is_refusal None refuses = tt
  is_refusal (Some e) refuses = refuses

  -- without an id
  pub closed : client.id ≡ None → Refuses client r NotOpen
  closed none = (none, λ e lt b. absurd (omega arith))

  -- with an id
  pub before_root : (client.id ≡ None → ⊥) → NoneBefore client r 1
  before_root has = none_more client r NotOpen (λ e lt b. absurd (omega arith)) has

  -- shown, and after a child where it is to come after one
  pub before_parent : NoneBefore client r 2 → (IsHidden client.view r → ⊥) → (ComesAfterNone client.view r → ⊥) → NoneBefore client r 3
  before_parent before shown after = none_more client r NotShown before (λ b. elim b as (λ _. ⊥) [
    | inl h ↦ shown h
    | inr h ↦ after h
  ])

  -- not too deep
  pub before_room : (view : Doc) → view ≡ client.view → NoneBefore client r 6 → (GoesTooDeep view r → ⊥) → NoneBefore client r 7
  before_room view is before fits = none_more client r TooDeep before (λ deep. fits (subst (λ d. GoesTooDeep d r) (sym is) deep))
