use Rattle.std.proofs.Common.{◌∙◌, IsTrue, ap, subst}
use Rattle.canvas_shelf.specs.Disk.{is_listed}
use Rattle.canvas_journal.proofs.Listed.{is_listed-appended}
use Rattle.test_stops.proofs.Listed.{created_is_listed}
use Rattle.test_stops.proofs.shelves.write_new.Goals as goal

pub append-requires : goal.append-requires
append-requires g c honest =
    let was = subst IsTrue c.create.ensures.honest honest in
    ap (is_listed c.args.number) (c.in_ok-create.ensures.disk was) ∙ created_is_listed c.args.number (g.S.Shelf.disk c.args.shelf.now)

pub sync-requires : goal.sync-requires
sync-requires g c honest =
    let made = subst IsTrue c.append.ensures.honest honest in
    let was = subst IsTrue c.create.ensures.honest made in
    ap (is_listed c.args.number) (c.in_ok-append.ensures.disk made)
    ∙ is_listed-appended c.args.number c.args.number c.args.bytes.now (g.S.Shelf.disk c.create.new.self)
    ∙ ap (is_listed c.args.number) (c.in_ok-create.ensures.disk was)
    ∙ created_is_listed c.args.number (g.S.Shelf.disk c.args.shelf.now)
