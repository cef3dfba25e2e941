use Rattle.std.proofs.Common.{◌≡◌, ◌++◌, true, IsTrue, drop}
use Rattle.std.specs.List.{AllByRecursion}
use Rattle.canvas_shelf.specs.Disk.{is_listed, seen}
use Rattle.canvas_journal.specs.Opening.{paired}
use Rattle.app_storage.proofs.guarding.keep_each.Given as goal

-- the copies so far, and the segments that are left
abbrev pub invariant-loop-number : goal.invariant-loop-number
invariant-loop-number g l = record {
  honest : g.S.Shelf.honest l.shelf ≡ g.S.Shelf.honest l.fn.shelf;
  keeps : g.C.Copies.honest l.copies ≡ g.C.Copies.honest l.fn.copies;
  disk : IsTrue (g.S.Shelf.honest l.fn.shelf) → g.S.Shelf.disk l.shelf ≡ g.S.Shelf.disk l.fn.shelf;
  listed : IsTrue (g.S.Shelf.honest l.fn.shelf) → AllByRecursion (λ n. is_listed n (g.S.Shelf.disk l.fn.shelf) ≡ true) (drop l.number-index l.listed);
  kept : IsTrue (g.S.Shelf.honest l.fn.shelf) → IsTrue (g.C.Copies.honest l.fn.copies)
      → g.C.Copies.kept l.copies ++ paired (g.S.Shelf.disk l.fn.shelf) (drop l.number-index l.listed) ≡ g.C.Copies.kept l.fn.copies ++ seen (g.S.Shelf.disk l.fn.shelf);
}
