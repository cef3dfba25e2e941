use Rattle.std.proofs.Common.{◌≡◌, ◌<◌, ◌≤◌, ◌+◌, ◌++◌, ℕ, suc, List, get_or, length, take, drop, arith, sym, ◌∙◌, ap, subst}
use Rattle.std.proofs.lemmas.List.{get_or_default}
use Rattle.memory_store.specs.Held.{held_content}
use Rattle.memory_store.specs.Sound.{falls_of}
use Rattle.memory_store.specs.declared.held.Held.{Held}
use Rattle.memory_store.proofs.Holding.{taken_out, not_there}
use Rattle.memory_store.proofs.held.remove_in.Goals as goal
use Rattle.memory_store.proofs.held.remove_in.Goals.{else-i-len-via-then-i-len+else-index-number, else-i-len-via-else-i-len}

pub returns-then-index-number : goal.returns-then-index-number
returns-then-index-number c =
    let n = c.args.number in
    let xs = c.args.held.now.items in
    let i = c.place-i.result in
    let x = c.index.result.now in
    let above = subst (λ (l : List Held). (k : ℕ) (h : Held) → k < i → n < (get_or l k h).number) c.deref.ensures.value c.place-i.ensures.above in
    let within : i < length xs = omega (arith, c.if-i-len.true, c.len.ensures, c.args.held.now.ok.0) in
    let e : i + 1 ≡ suc i = omega arith in
    ap held_content (c.remove.ensures.by_index.2 ∙ ap (λ (k : ℕ). take i xs ++ drop k xs) e) ∙ taken_out n xs i x c.index.ensures c.if-index-number.true within above

pub returns-else-i-len : goal.returns-else-i-len
returns-else-i-len c =
    let n = c.args.number in
    let xs = c.args.held.now.items in
    let i = c.place-i.result in
    let above = subst (λ (l : List Held). (k : ℕ) (h : Held) → k < i → n < (get_or l k h).number) c.deref.ensures.value c.place-i.ensures.above in
    let low = subst (λ (l : List Held). (h : Held) → i < length l → (get_or l i h).number ≤ n) c.deref.ensures.value c.place-i.ensures.next in
    let within : i ≤ length xs = subst (λ (l : List Held). i ≤ length l) c.deref.ensures.value c.place-i.ensures.within in
    let next : (h : Held) → i < length xs → (get_or xs i h).number < n = λ h less. elim c.else-i-len.branch [
      | else-i-len-via-then-i-len+else-index-number w ↦
          let x = w.index.result.now in
          let same : (get_or xs i h).number ≡ x.number = ap (λ (v : Held). v.number) (get_or_default xs i h x less ∙ sym w.index.ensures) in
          let apart : x.number ≡ n → ⊥ = w.if-index-number.false in
          omega (arith, low h less, same, apart)
      | else-i-len-via-else-i-len w ↦ absurd (omega (arith, less, w.if-i-len.false, c.len.ensures, c.args.held.now.ok.0))
    ] in
    sym (not_there n xs i (falls_of (held_content xs) c.requires) above next within)
