use Rattle.std.proofs.Common.{◌≡◌}
use Rattle.canvas_journal_tests.proofs.documents.holds.Given as goal

abbrev pub invariant-loop-number : goal.invariant-loop-number
invariant-loop-number g l = record {
  honest : g.S.Shelf.honest l.shelf ≡ g.S.Shelf.honest l.fn.shelf;
}
