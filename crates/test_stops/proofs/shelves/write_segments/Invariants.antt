use Rattle.std.proofs.Common.{◌≡◌, true, IsTrue, drop}
use Rattle.std.specs.List.{AllByRecursion}
use Rattle.canvas_shelf.specs.Disk.{is_listed}
use Rattle.test_stops.proofs.shelves.write_segments.Given as goal

abbrev pub invariant-loop-number : goal.invariant-loop-number
invariant-loop-number g l = record {
  honest : g.S.Shelf.honest l.shelf ≡ g.S.Shelf.honest l.fn.shelf;
  disk : IsTrue (g.S.Shelf.honest l.fn.shelf) → g.S.Shelf.disk l.shelf ≡ g.S.Shelf.disk l.fn.shelf;
  listed : IsTrue (g.S.Shelf.honest l.fn.shelf) → AllByRecursion (λ n. is_listed n (g.S.Shelf.disk l.fn.shelf) ≡ true) (drop l.number-index l.number-items);
}
