use Rattle.std.proofs.Common.{◌≡◌, ◌<◌, ◌≤◌, ◌++◌, ◌∷◌, ℕ, List, get_or, length, take, drop, arith, sym, ◌∙◌, ap, subst}
use Rattle.std.proofs.lemmas.Grind.{common_steps}
use Rattle.std.proofs.lemmas.List.{get_or_default}
use Rattle.canvas_shelf.proofs.Results.{always_err}
use Rattle.memory_store.specs.Held.{held_content}
use Rattle.memory_store.specs.declared.held.Held.{Held}
use Rattle.memory_store.proofs.Holding.{put_new, put_more, put_same}
use Rattle.memory_store.proofs.held.put_in.Goals as goal
use Rattle.memory_store.proofs.held.put_in.Goals.{else-i-len-via-then-i-len+else-index-number, else-i-len-via-else-i-len}

pub returns-in_err-extend_from_slice-clause-err : goal.returns-in_err-extend_from_slice-clause-err
returns-in_err-extend_from_slice-clause-err c =
    let xs = c.args.held.now.items in
    let i = c.place-i.result in
    let x = c.index_mut.result.now in
    let within : i < length xs = omega (arith, c.if-i-len.true, c.len.ensures, c.args.held.now.ok.0) in
    always_err c.from_residual.result _ (put_same xs i x _ c.index_mut.ensures.value (ap (λ (l : List ℕ). (x.number, l)) c.in_err-extend_from_slice.ensures.items) within)

pub returns-then-index-number-clause-ok : goal.returns-then-index-number-clause-ok
returns-then-index-number-clause-ok c =
    let n = c.args.number in
    let xs = c.args.held.now.items in
    let i = c.place-i.result in
    let x = c.index_mut.result.now in
    let more = c.args.bytes.now in
    let above = subst (λ (l : List Held). (k : ℕ) (h : Held) → k < i → n < (get_or l k h).number) c.deref.ensures.value c.place-i.ensures.above in
    let within : i < length xs = omega (arith, c.if-i-len.true, c.len.ensures, c.args.held.now.ok.0) in
    let read = c.index.result.now in
    let number : x.number ≡ n = ap (λ (w : Held). w.number) (c.index_mut.ensures.value ∙ get_or_default xs i x read within ∙ sym c.index.ensures) ∙ c.if-index-number.true in
    put_more n more xs i x _ c.index_mut.ensures.value number (ap (λ (k : ℕ). (k, c.extend_from_slice.new.self.items)) number ∙ ap (λ (l : List ℕ). (n, l)) c.in_ok-extend_from_slice.ensures.items) within above

pub returns-clause-ok : goal.returns-clause-ok
returns-clause-ok c =
    let n = c.args.number in
    let xs = c.args.held.now.items in
    let i = c.place-i.result in
    let above = subst (λ (l : List Held). (k : ℕ) (h : Held) → k < i → n < (get_or l k h).number) c.deref.ensures.value c.place-i.ensures.above in
    let low = subst (λ (l : List Held). (h : Held) → i < length l → (get_or l i h).number ≤ n) c.deref.ensures.value c.place-i.ensures.next in
    let within : i ≤ length xs = subst (λ (l : List Held). i ≤ length l) c.deref.ensures.value c.place-i.ensures.within in
    let next : (h : Held) → i < length xs → (get_or xs i h).number < n = λ h less. elim c.else-i-len.branch [
      | else-i-len-via-then-i-len+else-index-number w ↦
          let x = w.index.result.now in
          let same : (get_or xs i h).number ≡ x.number = ap (λ (v : Held). v.number) (get_or_default xs i h x less ∙ sym w.index.ensures) in
          let apart : x.number ≡ n → ⊥ = w.if-index-number.false in
          omega (arith, low h less, same, apart)
      | else-i-len-via-else-i-len w ↦ absurd (omega (arith, less, w.if-i-len.false, c.len.ensures, c.args.held.now.ok.0))
    ] in
    let y : Held = record { number = n; bytes = c.in_ok-bytes.bytes } in
    let copied : c.in_ok-bytes.bytes.items ≡ c.args.bytes.now = grind (arith, common_steps) in
    let into : c.insert.new.self.items ≡ take i xs ++ y ∷ drop i xs = c.in_ok-insert.ensures.items in
    ap held_content into ∙ put_new n c.args.bytes.now xs i y (ap (λ (l : List ℕ). (n, l)) copied) within above next
