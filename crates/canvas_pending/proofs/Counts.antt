-- Counts that were raised or lowered by one.
use Rattle.std.proofs.Common.{◌≡◌, ℕ, ◌+◌, ◌<◌, Bool, true, false, cond, Option, Some, None, refl, sym, ap, ◌∙◌, arith}
use Rattle.std.specs.Prelude.{◌&&◌, not}
use Rattle.std.specs.Option.{unwrap_or}
use Rattle.std.specs.BTreeMap.{BTreeMap, Updates, is_at}
use Rattle.std.specs.Map.{count_at}
use Rattle.std.specs.Cmp.{eq_by_cmp_equiv}
use Rattle.canvas_model.specs.declared.ObjId.{ObjId}
use Rattle.canvas_model.specs.Ids.{id_cmp, root, same_id}
use Rattle.canvas_model.proofs.Ids.{id_itself, id_total, same_id_true}
use Rattle.canvas_pending.specs.Tallied.{Tally, HasNoZero, IsOneMore, is_it, of_objects}

-- a count above 0 is found, and one that is 0 is not
pub counted : (o : Option ℕ) → 0 < unwrap_or o 0 → o ≡ Some (unwrap_or o 0)
counted None some = absurd (omega arith)
counted (Some n) some = refl

pub not_counted : (o : Option ℕ) → (o ≡ Some 0 → ⊥) → unwrap_or o 0 ≡ 0 → o ≡ None
not_counted None some none = refl
not_counted (Some n) some none = absurd (some (ap Some none))

-- g has the count w where the test passes, and the counts of f elsewhere
module _ {K : Type 0} (test : K → Bool) (f g : Tally K) (w : Option ℕ) (now : (k : K) → g k ≡ cond (test k) w (f k)) where
  there : (k : K) → test k ≡ true → count_at g k ≡ unwrap_or w 0
  there k e = ap (λ o. unwrap_or o 0) (now k ∙ ap (λ b. cond b w (f k)) e)

  elsewhere : (k : K) → test k ≡ false → g k ≡ f k
  elsewhere k e = now k ∙ ap (λ b. cond b w (f k)) e

  -- no count is 0, where this one isn't
  pub no_zero : (w ≡ Some 0 → ⊥) → HasNoZero f → HasNoZero g
  no_zero some none k e = by (test k) refl
    where
      by : (b : Bool) → test k ≡ b → ⊥
      by true t = some (sym (now k ∙ ap (λ b. cond b w (f k)) t) ∙ e)
      by false t = none k (sym (elsewhere k t) ∙ e)

  module _ (n : ℕ) (was : (k : K) → test k ≡ true → count_at f k ≡ n) where
    -- it was the count before, and one more
    pub raised : unwrap_or w 0 ≡ n + 1 → IsOneMore test f g
    raised up k = by (test k) refl
      where
        by : (b : Bool) → test k ≡ b → count_at g k ≡ count_at f k + cond b 1 0
        by true t = let a = there k t in let b = was k t in omega (arith, a, b, up)
        by false t = let a : count_at g k ≡ count_at f k = ap (λ o. unwrap_or o 0) (elsewhere k t) in omega (arith, a)

    -- it was one more before
    pub lowered : n ≡ unwrap_or w 0 + 1 → IsOneMore test g f
    lowered down k = by (test k) refl
      where
        by : (b : Bool) → test k ≡ b → count_at f k ≡ count_at g k + cond b 1 0
        by true t = let a = there k t in let b = was k t in omega (arith, a, b, down)
        by false t = let a : count_at g k ≡ count_at f k = ap (λ o. unwrap_or o 0) (elsewhere k t) in omega (arith, a)

-- the object that is asked for, where it isn't the root
module _ (id : ObjId) (apart : same_id id root ≡ false) where
  it_is : (q : ObjId) → is_at (id_cmp id) q ≡ is_it id q
  it_is q = (eq_by_cmp_equiv id_total).symm id q ∙ with_true (same_id q id) ∙ ap (λ b. same_id q id && not b) (sym apart)
    where
      with_true : (b : Bool) → b ≡ (b && true)
      with_true true = refl
      with_true false = refl

  pub it_it : is_it id id ≡ true
  it_it = ap (λ b. b && not (same_id id root)) (id_itself id) ∙ ap not apart

  it_itself : (q : ObjId) → is_it id q ≡ true → q ≡ id
  it_itself q e = same_id_true q id (left (same_id q id) (not (same_id id root)) e)
    where
      left : (a b : Bool) → (a && b) ≡ true → a ≡ true
      left true b e = refl
      left false b e = absurd (cc)

  module _ (m n : BTreeMap ObjId ℕ) (w : Option ℕ) (is : Updates id_cmp m n id w) where
    written : (q : ObjId) → of_objects n q ≡ cond (is_it id q) w (of_objects m q)
    written q = is.0 q ∙ ap (λ b. cond b w (of_objects m q)) (it_is q)

    pub object_no_zero : (w ≡ Some 0 → ⊥) → HasNoZero (of_objects m) → HasNoZero (of_objects n)
    object_no_zero = no_zero (is_it id) (of_objects m) (of_objects n) w written

    module _ (count : ℕ) (counted : count ≡ count_at (of_objects m) id) where
      was : (q : ObjId) → is_it id q ≡ true → count_at (of_objects m) q ≡ count
      was q e = ap (count_at (of_objects m)) (it_itself q e) ∙ sym counted

      pub object_raised : unwrap_or w 0 ≡ count + 1 → IsOneMore (is_it id) (of_objects m) (of_objects n)
      object_raised = raised (is_it id) (of_objects m) (of_objects n) w written count was

      pub object_lowered : count ≡ unwrap_or w 0 + 1 → IsOneMore (is_it id) (of_objects n) (of_objects m)
      object_lowered = lowered (is_it id) (of_objects m) (of_objects n) w written count was
