use Rattle.std.proofs.Common.{inl, inr, ◌≡◌, ◌+◌, ◌-◌, ◌<◌, ◌≤◌, Some, suc, length, take, Vec, rules, sym, subst, ap, ◌∙◌, arith}
use Rattle.std.proofs.lemmas.Bool.{cases_lt}
use Rattle.canvas_blocks.specs.Blocks.{flat, index_at, index_of, IsPlace}
use Rattle.canvas_blocks.proofs.Sized.{after_index, before_index, index_within, upto_next}
use Rattle.canvas_blocks.proofs.moves.last_from.Goals as goal

pub returns-in_err-to-clause-none : goal.returns-in_err-to-clause-none
returns-in_err-to-clause-none g c =
    let within = index_within c.args.blocks.now c.args.at.0 c.args.at.1 c.requires.at in
    let last : index_at c.args.blocks.now c.args.to ≡ length (flat c.args.blocks.now) = ap (index_at c.args.blocks.now) c.in_err-to.was in
    let done : index_of c.args.blocks.now c.args.at.0 c.args.at.1 ≤ index_at c.args.blocks.now c.args.to = omega (arith, within, last) in
    search rules

pub returns-then-not-is_before-clause-none : goal.returns-then-not-is_before-clause-none
returns-then-not-is_before-clause-none g c =
    let to = c.in_ok-to.field-0 in
    let is : c.args.to ≡ Some to = c.in_ok-to.was in
    let there : IsPlace c.args.blocks.now (Some to) = subst (IsPlace c.args.blocks.now) is c.requires.to in
    let same : index_at c.args.blocks.now c.args.to ≡ index_of c.args.blocks.now to.0 to.1 = ap (index_at c.args.blocks.now) is in
    let far = after_index c.args.blocks.now to (Some c.args.at) there c.requires.at (λ before. let yes = c.is_before.ensures.1 before in let no = c.if-not-is_before.true in cc) in
    omega (arith, same, far)

pub returns-then-at-gt0-clause-from : goal.returns-then-at-gt0-clause-from
returns-then-at-gt0-clause-from g c =
    let to = c.in_ok-to.field-0 in
    let is : c.args.to ≡ Some to = c.in_ok-to.was in
    let there : IsPlace c.args.blocks.now (Some to) = subst (IsPlace c.args.blocks.now) is c.requires.to in
    let same : index_at c.args.blocks.now c.args.to ≡ index_of c.args.blocks.now to.0 to.1 = ap (index_at c.args.blocks.now) is in
    let near = before_index c.args.blocks.now to (Some c.args.at) there c.requires.at (c.is_before.ensures.0 c.if-not-is_before.false) in
    omega (arith, same, near)

pub returns-clause-from : goal.returns-clause-from
returns-clause-from g c =
    let to = c.in_ok-to.field-0 in
    let is : c.args.to ≡ Some to = c.in_ok-to.was in
    let there : IsPlace c.args.blocks.now (Some to) = subst (IsPlace c.args.blocks.now) is c.requires.to in
    let same : index_at c.args.blocks.now c.args.to ≡ index_of c.args.blocks.now to.0 to.1 = ap (index_at c.args.blocks.now) is in
    let near = before_index c.args.blocks.now to (Some c.args.at) there c.requires.at (c.is_before.ensures.0 c.if-not-is_before.false) in
    let v : Vec g.row.T.Denot g.row.A.Denot = c.index-blocks-block.result in
    let first : 0 < c.args.at.0 = elim (cases_lt 0 c.args.at.0) as (λ _. 0 < c.args.at.0) [
      | inl lt ↦ lt
      | inr ge ↦ absurd (let start : length (flat (take c.args.at.0 c.args.blocks.now)) ≡ 0 = ap (λ k. length (flat (take k c.args.blocks.now))) (let e : c.args.at.0 ≡ 0 = omega arith in e) in omega (arith, near, start, c.if-at-gt0.false))
    ] in
    let next : suc (c.args.at.0 - 1) ≡ c.args.at.0 = omega (arith, first) in
    let inside : c.args.at.0 - 1 < length c.args.blocks.now = omega (arith, first, c.requires.at.block_in) in
    let all : length (flat (take c.args.at.0 c.args.blocks.now)) ≡ length (flat (take (c.args.at.0 - 1) c.args.blocks.now)) + length v.items =
    ap (λ k. length (flat (take k c.args.blocks.now))) (sym next) ∙ upto_next c.args.blocks.now (c.args.at.0 - 1) v inside
    ∙ ap (λ (u : Vec g.row.T.Denot g.row.A.Denot). length (flat (take (c.args.at.0 - 1) c.args.blocks.now)) + length u.items) (sym c.index-blocks-block.is) in
    let long : c.len.result ≡ length v.items = c.len.ensures ∙ v.ok.0 in
    omega (arith, same, near, all, long, c.if-at-gt0.false)
