use Rattle.std.proofs.Common.{rules, ◌≡◌, ◌∙◌, ap, sym}
use Rattle.std.specs.Prelude.{Some}
use Rattle.canvas_client.specs.Ends.{LiesLast}
use Rattle.canvas_c.specs.Answers.{MoveThereAnswer}
use Rattle.canvas_c.specs.Ids.{object}
use Rattle.canvas_c.specs.Numbers.{no_client}
use Rattle.canvas_c.proofs.Holding.{held_both}
use Rattle.canvas_c.proofs.lugcurrant_move_last.Goals as goal

pub returns : goal.returns
returns c =
    let a = c.args in let n = c.move_last-answer.result in
    held_both (MoveThereAnswer LiesLast (object a.client a.counter) (object a.parent_client a.parent_counter) n) (n ≡ no_client) a.handle.now.kept.session c.put.new.self.kept.session
    c.deref_mut.result.now c.move_last-answer.new.self
    (c.in-Some.ensures.some ∙ ap Some (sym c.deref_mut.ensures.value)) (search rules)
    c.move_last-answer.ensures
