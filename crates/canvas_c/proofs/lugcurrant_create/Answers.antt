use Rattle.std.proofs.Common.{◌≡◌, ◌∙◌, ap, sym, subst}
use Rattle.std.specs.Prelude.{Some}
use Rattle.canvas_c.specs.Answers.{CreateAnswer}
use Rattle.canvas_c.specs.Ids.{object, target_of}
use Rattle.canvas_c.specs.Numbers.{no_client}
use Rattle.canvas_c.proofs.Holding.{held_both}
use Rattle.canvas_c.proofs.lugcurrant_create.Goals as goal

pub returns : goal.returns
returns c =
    let a = c.args in let was = a.made.now in let made = c.create-answer.new.made in let n = c.create-answer.result in
    held_both (CreateAnswer a.kind (target_of a.parent_client a.parent_counter a.after_client a.after_counter) was made n) ((n ≡ no_client) × (made ≡ was)) a.handle.now.kept.session c.put.new.self.kept.session
    c.deref_mut.result.now c.create-answer.new.self
    (c.in-Some.ensures.some ∙ ap Some (sym c.deref_mut.ensures.value)) c.put.ensures
    (subst (λ v. CreateAnswer a.kind (record { parent = object a.parent_client a.parent_counter; after = v }) was made n c.deref_mut.result.now c.create-answer.new.self) c.after_of.ensures c.create-answer.ensures)
