use Rattle.canvas_doc.proofs.Whole.{rooted_is_document}
use Rattle.canvas_doc.proofs.is_document.Goals as goal

pub returns-then-is_sorted : goal.returns-then-is_sorted
returns-then-is_sorted g c =
    let both = rooted_is_document c.args.objects.now (c.is_sorted.ensures.0 c.if-is_sorted.true) in
    (λ t. both.0 (c.is_rooted.ensures.0 t), λ are. c.is_rooted.ensures.1 (both.1 are))
