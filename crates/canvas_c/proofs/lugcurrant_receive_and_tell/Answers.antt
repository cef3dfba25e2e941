use Rattle.std.proofs.Common.{rules, ◌≡◌, ◌∙◌, ap, sym}
use Rattle.std.specs.Prelude.{Some}
use Rattle.canvas_c.specs.Answers.{TellAnswer}
use Rattle.canvas_c.specs.Numbers.{no_client}
use Rattle.canvas_c.proofs.Holding.{held_both}
use Rattle.canvas_c.proofs.lugcurrant_receive_and_tell.Goals as goal

pub returns : goal.returns
returns c =
    let a = c.args in let n = c.receive_and_tell-answer.result in
    held_both (TellAnswer a.bytes.now n) (n ≡ no_client) a.handle.now.kept.session c.put.new.self.kept.session
    c.deref_mut.result.now c.receive_and_tell-answer.new.self
    (c.in-Some.ensures.some ∙ ap Some (sym c.deref_mut.ensures.value)) (search rules)
    c.receive_and_tell-answer.ensures
