use Rattle.std.proofs.Common.{◌≡◌, false}
use Rattle.canvas_journal_tests.proofs.documents.first_other.Given as goal

abbrev pub invariant-loop-i : goal.invariant-loop-i
invariant-loop-i g l = record {
  honest : g.S.Shelf.honest l.shelf ≡ false;
}
