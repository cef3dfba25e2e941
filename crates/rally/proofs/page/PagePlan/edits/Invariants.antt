use Rattle.rally.specs.Pages.{AsksForPage}
use Rattle.rally.proofs.page.PagePlan.edits.Given as goal

abbrev pub invariant-loop-n : goal.invariant-loop-n
invariant-loop-n l = AsksForPage l.id l.n l.edits.items
