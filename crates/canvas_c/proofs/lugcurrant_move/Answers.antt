use Rattle.std.proofs.Common.{rules, ◌≡◌, ◌∙◌, ap, sym, subst}
use Rattle.std.specs.Prelude.{Some}
use Rattle.canvas_c.specs.Answers.{MoveAnswer}
use Rattle.canvas_c.specs.Ids.{object, target_of}
use Rattle.canvas_c.specs.Numbers.{no_client}
use Rattle.canvas_c.proofs.Holding.{held_both}
use Rattle.canvas_c.proofs.lugcurrant_move.Goals as goal

pub returns : goal.returns
returns c =
    let a = c.args in let id = object a.client a.counter in let n = c.move_to-answer.result in
    held_both (MoveAnswer id (target_of a.parent_client a.parent_counter a.after_client a.after_counter) n) (n ≡ no_client) a.handle.now.kept.session c.put.new.self.kept.session
    c.deref_mut.result.now c.move_to-answer.new.self
    (c.in-Some.ensures.some ∙ ap Some (sym c.deref_mut.ensures.value)) (search rules)
    (subst (λ v. MoveAnswer id (record { parent = object a.parent_client a.parent_counter; after = v }) n c.deref_mut.result.now c.move_to-answer.new.self) c.after_of.ensures c.move_to-answer.ensures)
