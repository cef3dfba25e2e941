use Rattle.std.proofs.Common.{◌≡◌, Vec, sym, ap, subst, ◌∙◌}
use Rattle.canvas_blocks.specs.Blocks.{flat, index_at, index_of, moved, sizes, IsPlace}
use Rattle.canvas_blocks.proofs.Gaps.{moved_same}
use Rattle.canvas_blocks.proofs.Shifted.{refused}
use Rattle.canvas_blocks.proofs.Sized.{same_in, same_place}
use Rattle.canvas_blocks.proofs.moves.move_in.Goals.{in-Some, in-None}
use Rattle.canvas_blocks.proofs.moves.move_in.Goals as goal

pub shift-requires-clause-from : goal.shift-requires-clause-from
shift-requires-clause-from g c =
    let bs = c.args.blocks.now.items in
    let failed = sym c.is_err.ensures.value ∙ c.if-is_err.true in
    let same : sizes c.match-to.blocks.items ≡ sizes bs = elim c.match-to.branch as (λ _. sizes c.match-to.blocks.items ≡ sizes bs) [
      | in-Some w ↦ ap (λ (v : Vec (Vec g.row.T.Denot g.row.A.Denot) g.row.A.Denot). sizes v.items) w.blocks-is ∙ refused c.match-to.done w.move_before-done.result failed w.done-is w.move_before-done.ensures.sizes
      | in-None w ↦ ap (λ (v : Vec (Vec g.row.T.Denot g.row.A.Denot) g.row.A.Denot). sizes v.items) w.blocks-is ∙ refused c.match-to.done w.move_last-done.result failed w.done-is w.move_last-done.ensures.sizes
    ] in
    same_in bs _ _ _ (sym same) c.requires.from

pub shift-requires-clause-to : goal.shift-requires-clause-to
shift-requires-clause-to g c =
    let bs = c.args.blocks.now.items in
    let failed = sym c.is_err.ensures.value ∙ c.if-is_err.true in
    elim c.match-to.branch as (λ _. IsPlace c.match-to.blocks.items c.match-to.to) [
      | in-Some w ↦
          let same : sizes c.match-to.blocks.items ≡ sizes bs = ap (λ (v : Vec (Vec g.row.T.Denot g.row.A.Denot) g.row.A.Denot). sizes v.items) w.blocks-is ∙ refused c.match-to.done w.move_before-done.result failed w.done-is w.move_before-done.ensures.sizes in
          subst (IsPlace c.match-to.blocks.items) (w.in-Some.is ∙ sym w.to-is) (same_place bs c.match-to.blocks.items c.args.to (sym same) c.requires.to)
      | in-None w ↦
          let same : sizes c.match-to.blocks.items ≡ sizes bs = ap (λ (v : Vec (Vec g.row.T.Denot g.row.A.Denot) g.row.A.Denot). sizes v.items) w.blocks-is ∙ refused c.match-to.done w.move_last-done.result failed w.done-is w.move_last-done.ensures.sizes in
          subst (IsPlace c.match-to.blocks.items) (sym w.to-is) (same_place bs c.match-to.blocks.items c.args.to (sym same) c.requires.to)
    ]

pub returns-then-is_err-clause-items : goal.returns-then-is_err-clause-items
returns-then-is_err-clause-items g c =
    let bs = c.args.blocks.now.items in
    let cs = c.match-to.blocks.items in
    let from = c.args.from in
    let failed = sym c.is_err.ensures.value ∙ c.if-is_err.true in
    let same : moved (flat cs) (index_of cs from.0 from.1) (index_at cs c.match-to.to) c.args.item ≡ moved (flat bs) (index_of bs from.0 from.1) (index_at bs c.args.to) c.args.item =
    elim c.match-to.branch as (λ _. moved (flat cs) (index_of cs from.0 from.1) (index_at cs c.match-to.to) c.args.item ≡ moved (flat bs) (index_of bs from.0 from.1) (index_at bs c.args.to) c.args.item) [
      | in-Some w ↦
          let size : sizes cs ≡ sizes bs = ap (λ (v : Vec (Vec g.row.T.Denot g.row.A.Denot) g.row.A.Denot). sizes v.items) w.blocks-is ∙ refused c.match-to.done w.move_before-done.result failed w.done-is w.move_before-done.ensures.sizes in
          let items : flat cs ≡ flat bs = ap (λ (v : Vec (Vec g.row.T.Denot g.row.A.Denot) g.row.A.Denot). flat v.items) w.blocks-is ∙ refused c.match-to.done w.move_before-done.result failed w.done-is w.move_before-done.ensures.err in
          moved_same bs cs from.0 from.1 c.args.to c.match-to.to c.args.item size items (w.in-Some.is ∙ sym w.to-is)
      | in-None w ↦
          let size : sizes cs ≡ sizes bs = ap (λ (v : Vec (Vec g.row.T.Denot g.row.A.Denot) g.row.A.Denot). sizes v.items) w.blocks-is ∙ refused c.match-to.done w.move_last-done.result failed w.done-is w.move_last-done.ensures.sizes in
          let items : flat cs ≡ flat bs = ap (λ (v : Vec (Vec g.row.T.Denot g.row.A.Denot) g.row.A.Denot). flat v.items) w.blocks-is ∙ refused c.match-to.done w.move_last-done.result failed w.done-is w.move_last-done.ensures.err in
          moved_same bs cs from.0 from.1 c.args.to c.match-to.to c.args.item size items (sym w.to-is)
    ] in
    c.shift.ensures.items ∙ same
