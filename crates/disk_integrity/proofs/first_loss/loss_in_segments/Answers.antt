use Rattle.std.proofs.Common.{◌≡◌, ◌∙◌, ◌<◌, ◌++◌, ◌∷◌, [], ℕ, suc, List, Option, length, get_or, take, drop, subst, refl, sym, ap, drop-cons, inl, inr}
use Rattle.std.proofs.lemmas.Bool.{cases_Bool}
use Rattle.disk_integrity.specs.Losses.{IsLoss, down_to, is_taken}
use Rattle.disk_integrity.specs.declared.listed.Listed.{Listed}
use Rattle.disk_integrity.proofs.first_loss.loss_in_segments.Goals as goal

-- a segment, whatever stands below it
below_one : (taken : Option ℕ) (s : Listed) (older : List Listed) → (below : List Listed) × (down_to taken (s ∷ older) ≡ s ∷ below)
below_one taken s older = elim (cases_Bool (is_taken taken s.number)) [
  | inl here ↦ ([], rw here refl)
  | inr gone ↦ (down_to taken older, rw gone refl)
]

-- the same of the segment at this index
below_at : (taken : Option ℕ) (listed : List Listed) (i : ℕ) (one : Listed) → i < length listed → one ≡ get_or listed i one
    → (below : List Listed) × (down_to taken (drop i listed) ≡ one ∷ below)
below_at taken listed i one lt is =
    let split : drop i listed ≡ one ∷ drop (suc i) listed = drop-cons listed i one lt ∙ ap (λ (s : Listed). s ∷ drop (suc i) listed) (sym is) in
    let below = below_one taken one (drop (suc i) listed) in
    (below.0, ap (down_to taken) split ∙ below.1)

pub returns-in-Some : goal.returns-in-Some
returns-in-Some c =
    let inv = c.loop-one.invariant in
    let i = c.loop-one.one-index in
    let one = c.one-item.result in
    let below = below_at c.args.taken c.args.listed.now i one c.loop-one-test.true c.one-item.is in
    record {
      above = take i c.args.listed.now;
      one = one;
      below = below.0;
      whole = inv.above ∙ ap (λ x. take i c.args.listed.now ++ x) below.1;
      each = inv.each;
      is = subst (λ b. IsLoss b c.args.checkpoint.now one c.in-Some.loss) c.is_taken-is_taken.ensures c.in-Some.ensures;
    }
