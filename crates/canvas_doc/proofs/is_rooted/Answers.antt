use Rattle.std.proofs.Common.{IsTrue, ◌↔◌, sym, subst, ◌∙◌}
use Rattle.canvas_doc.specs.Whole.{AreRooted}
use Rattle.canvas_doc.proofs.is_rooted.Goals as goal

pub returns-then-is_root : goal.returns-then-is_root
returns-then-is_root g c = subst (λ es. IsTrue c.are_placed.result ↔ AreRooted es) (sym c.in-Some.ensures.cases.0)
    (λ t. (c.is_root.ensures.0 c.if-is_root.true, sym c.are_placed.ensures ∙ t), λ are. c.are_placed.ensures ∙ are.1)
