-- Tests of what waits, and of answers.
use Rattle.std.proofs.Common.{ℕ, ◌+◌, ◌≡◌, ◌↔◌, Bool, true, false, Option, Some, Result, Ok, Err, refl, ap, sym, ◌∙◌, arith}
use Rattle.std.specs.Prelude.{IsTrue, OnErr, OnOk, ◌&&◌, is_err}
use Rattle.std.specs.Ordering.{is_eq}
use Rattle.std.specs.declared.cmp.Ordering.{Ordering}
use Rattle.std.specs.declared.cmp.Ordering.TheVariants.{Less, Equal, Greater}
use Rattle.canvas_model.specs.declared.ObjId.{ObjId}
use Rattle.canvas_model.specs.Ids.{same_id}
use Rattle.canvas_model.specs.Value.{Value}
use Rattle.canvas_model.specs.Document.{Name}
use Rattle.canvas_model.specs.Change.{Change, Set}
use Rattle.canvas_model.specs.View.{same_name, sets_it}
use Rattle.canvas_model.proofs.Ids.{id_itself}
use Rattle.canvas_model.proofs.Fields.{same_name_true, name_itself}

-- an answer that is exact is the test's
same_bytes : (b : Bool) (x y : Name) → IsTrue b ↔ (x ≡ y) → b ≡ same_name x y
same_bytes true x y is = sym (ap (same_name x) (sym (is.0 refl)) ∙ name_itself x)
same_bytes false x y is = go (same_name x y) refl
  where
    go : (r : Bool) → same_name x y ≡ r → false ≡ same_name x y
    go true e = is.1 (same_name_true x y e) ∙ sym e
    go false e = sym e

pub sets_row : (b : Bool) (change : Change) (q id : ObjId) (name other : Name) (value : Option Value) → change ≡ Set id other value → q ≡ id → IsTrue b ↔ (name ≡ other) → b ≡ sets_it q name change
sets_row b change q id name other value is same names =
    same_bytes b name other names ∙ sym (ap (sets_it q name) is ∙ ap (λ b. b && same_name name other) (ap (λ x. same_id x id) same ∙ id_itself id))

-- what holds of an answer that is no error
pub not_refused : {T E : Type 0} (r : Result T E) {P : Type 0} → false ≡ is_err r → OnOk r P → P
not_refused (Ok x) fine p = p
not_refused (Err e) fine p = absurd (cc)

-- a count that was raised isn't 0, nor one that was lowered from above 1
pub risen : (m n : ℕ) → m ≡ n + 1 → Some m ≡ Some 0 → ⊥
risen m n up e = let zero_now : m ≡ 0 = cc in absurd (omega (arith, up, zero_now))

-- an order that is told to be equal, or not
pub told_equal : (o : Ordering) → true ≡ is_eq o → o ≡ Equal
told_equal Less e = absurd (cc)
told_equal Equal e = refl
told_equal Greater e = absurd (cc)

pub told_apart : (o : Ordering) → false ≡ is_eq o → o ≡ Equal → ⊥
told_apart Less e same = cc
told_apart Equal e same = cc
told_apart Greater e same = cc

-- what holds where it is refused and where it isn't
pub either_way : {T E P : Type 0} (r : Result T E) → OnOk r P → OnErr r P → P
either_way (Ok x) ok err = ok
either_way (Err e) ok err = err
