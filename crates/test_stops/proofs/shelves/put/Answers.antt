use Rattle.std.proofs.Common.{◌≡◌, ◌==◌, ◌∙◌, ℕ, Bool, List, IsTrue, false, ap, sym, subst}
use Rattle.std.specs.List.{list_any}
use Rattle.canvas_shelf.specs.Disk.{Segment, is_listed, numbers}
use Rattle.test_stops.proofs.Listed.{not_listed}
use Rattle.test_stops.proofs.shelves.put.Goals as goal

pub write_new-requires : goal.write_new-requires
write_new-requires g c honest =
    let disk = g.S.Shelf.disk c.args.shelf.now in
    let was = subst IsTrue c.list.ensures.honest honest in
    let among : List ℕ → Bool = list_any (λ m. m == c.args.number) in
    let none : among (numbers disk) ≡ false =
    ap among (sym (c.deref.ensures.value ∙ c.in_ok-listed.ensures.numbers was)) ∙ sym c.contains.ensures.value ∙ c.if-contains.false in
    subst (λ (d : List Segment). is_listed c.args.number d ≡ false) (sym (c.list.ensures.disk was).0) (not_listed c.args.number disk none)
