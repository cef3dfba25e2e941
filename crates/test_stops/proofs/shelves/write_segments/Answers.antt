use Rattle.std.proofs.Common.{◌≡◌, ◌∙◌, true, sym, subst}
use Rattle.std.specs.List.{AllByRecursion}
use Rattle.canvas_shelf.specs.Disk.{is_listed}
use Rattle.canvas_journal.proofs.Paired.{each_listed}
use Rattle.test_stops.proofs.shelves.write_segments.Goals as goal

pub loop-number-init : goal.loop-number-init
loop-number-init g c =
    let disk = g.S.Shelf.disk c.args.shelf.now in
    record {
      honest = c.list.ensures.honest;
      disk = λ h. (c.list.ensures.disk h).0;
      listed = λ h. subst (AllByRecursion (λ n. is_listed n disk ≡ true)) (sym (c.deref-number-items.ensures.value ∙ c.in_ok-listed.ensures.numbers h)) (each_listed disk (g.met.S.Shelf.sound c.args.shelf.now h).falls);
    }
