use Rattle.std.proofs.Common.{◌≡◌, false}
use Rattle.canvas_journal_tests.proofs.calls.play.Given as goal

abbrev pub invariant-loop-call : goal.invariant-loop-call
invariant-loop-call g l = record {
  honest : g.S.Shelf.honest l.shelf ≡ false;
}
