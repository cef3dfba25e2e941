use Rattle.std.proofs.Common.{◌≡◌, ◌++◌, true, IsTrue, drop}
use Rattle.std.specs.List.{AllByRecursion}
use Rattle.canvas_shelf.specs.Disk.{Content, seen, is_listed}
use Rattle.canvas_journal.specs.Opening.{paired}
use Rattle.app_admin.specs.Checks.{segment_lines}
use Rattle.app_admin.proofs.checking.lines_of.Given as goal

-- the lines so far, and those of the segments that are left
abbrev pub invariant-loop-number : goal.invariant-loop-number
invariant-loop-number g l = record {
  honest : g.S.Shelf.honest l.shelf ≡ g.S.Shelf.honest l.fn.shelf;
  disk : IsTrue (g.S.Shelf.honest l.fn.shelf) → (g.S.Shelf.disk l.shelf ≡ g.S.Shelf.disk l.fn.shelf) × (g.S.Shelf.past l.shelf ≡ g.S.Shelf.past l.fn.shelf);
  listed : IsTrue (g.S.Shelf.honest l.fn.shelf) → AllByRecursion (λ n. is_listed n (g.S.Shelf.disk l.fn.shelf) ≡ true) (drop l.number-index l.listed);
  lines : IsTrue (g.S.Shelf.honest l.fn.shelf) → l.lines.items ++ segment_lines (paired (g.S.Shelf.disk l.fn.shelf) (drop l.number-index l.listed)) ≡ segment_lines (seen (g.S.Shelf.disk l.fn.shelf));
  form : (content : Content) × (l.lines.items ≡ segment_lines content);
}
