use Rattle.std.proofs.Common.{◌≡◌, ◌++◌, true, IsTrue, drop}
use Rattle.std.specs.List.{AllByRecursion}
use Rattle.canvas_shelf.specs.Disk.{seen, is_listed}
use Rattle.canvas_journal.specs.Opening.{paired}
use Rattle.app_admin.specs.Losing.{content_of}
use Rattle.app_admin.proofs.finding_loss.read_each.Given as goal

-- what was read so far, and what the segments that are left hold
abbrev pub invariant-loop-number : goal.invariant-loop-number
invariant-loop-number g l = record {
  honest : g.S.Shelf.honest l.shelf ≡ g.S.Shelf.honest l.fn.shelf;
  disk : IsTrue (g.S.Shelf.honest l.fn.shelf) → (g.S.Shelf.disk l.shelf ≡ g.S.Shelf.disk l.fn.shelf) × (g.S.Shelf.past l.shelf ≡ g.S.Shelf.past l.fn.shelf);
  listed : IsTrue (g.S.Shelf.honest l.fn.shelf) → AllByRecursion (λ n. is_listed n (g.S.Shelf.disk l.fn.shelf) ≡ true) (drop l.number-index l.listing);
  content : IsTrue (g.S.Shelf.honest l.fn.shelf) → content_of l.listed.items ++ paired (g.S.Shelf.disk l.fn.shelf) (drop l.number-index l.listing) ≡ seen (g.S.Shelf.disk l.fn.shelf);
}
