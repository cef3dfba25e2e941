-- An id is written in one way.
use Rattle.std.proofs.Common.{◌≡◌, ◌≢◌, ℕ, zero, suc, ◌<◌, ◌^◌, List, [], ◌∷◌, ◌++◌, refl, sym, subst, ◌∙◌, arith, append_assoc}
use Rattle.std.specs.Fmt.{decimal}
use Rattle.canvas_model.specs.declared.ObjId.{ObjId}
use Rattle.canvas_model.specs.Ids.{IsId}
use Rattle.canvas_model.specs.Text.{id_text}
use Rattle.canvas_model.specs.Words.{Lacks, IsCut}
use Rattle.canvas_model.proofs.Cut.{cut_is}
use Rattle.canvas_model.proofs.Spelled.{digits}

pub no_colon : (n : ℕ) → n < 2 ^ 32 → Lacks 58 (decimal n)
no_colon n small k lt is = let d = digits (decimal n) n small refl k lt in omega (arith, d.0, d.1)

pub no_blank : (n : ℕ) → n < 2 ^ 32 → Lacks 32 (decimal n)
no_blank n small k lt is = let d = digits (decimal n) n small refl k lt in omega (arith, d.0, d.1)

-- what lacks a byte before another byte, that byte and after it lacks it
lacks_joined : (m b : ℕ) (x y : List ℕ) → Lacks m x → b ≢ m → Lacks m y → Lacks m (x ++ b ∷ y)
lacks_joined m b [] y hx hb hy zero lt = hb
lacks_joined m b [] y hx hb hy (suc k) lt = hy k (omega arith)
lacks_joined m b (a ∷ x) y hx hb hy zero lt = hx 0 (omega arith)
lacks_joined m b (a ∷ x) y hx hb hy (suc k) lt = lacks_joined m b x y (λ k lt. hx (suc k) (omega arith)) hb hy k (omega arith)

pub id_spelled : (id : ObjId) → id_text id ≡ decimal id.client ++ 58 ∷ decimal id.counter
id_spelled id = append_assoc (decimal id.client) (58 ∷ []) (decimal id.counter)

pub id_blank : (id : ObjId) → IsId id → Lacks 32 (id_text id)
id_blank id small =
    subst (Lacks 32) (sym (id_spelled id)) (lacks_joined 32 58 (decimal id.client) (decimal id.counter) (no_blank id.client small.0) (λ e. absurd (omega arith)) (no_blank id.counter small.1))

pub id_parts : (s before after : List ℕ) (id : ObjId) → IsCut 58 s before after → IsId id → s ≡ id_text id → (before ≡ decimal id.client) × (after ≡ decimal id.counter)
id_parts s before after id cut small is = cut_is 58 s before after (decimal id.client) (decimal id.counter) cut (no_colon id.client small.0) (is ∙ id_spelled id)
