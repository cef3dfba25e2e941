use Rattle.std.proofs.Common.{rules, ◌≡◌, ◌∙◌, ap, sym}
use Rattle.std.specs.Prelude.{Some}
use Rattle.canvas_c.specs.Answers.{ResumeAnswer}
use Rattle.canvas_c.specs.Numbers.{no_client}
use Rattle.canvas_c.proofs.Holding.{held_both}
use Rattle.canvas_c.proofs.lugcurrant_resume.Goals as goal

pub returns : goal.returns
returns c =
    let a = c.args in let n = c.resume-answer.result in
    held_both (ResumeAnswer a.bytes.now n) (n ≡ no_client) a.handle.now.kept.session c.put.new.self.kept.session
    c.deref_mut.result.now c.resume-answer.new.self
    (c.in-Some.ensures.some ∙ ap Some (sym c.deref_mut.ensures.value)) (search rules)
    c.resume-answer.ensures
