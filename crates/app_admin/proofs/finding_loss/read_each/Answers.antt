use Rattle.std.proofs.Common.{◌≡◌, ◌++◌, ◌∙◌, List, true, refl, sym, ap, subst}
use Rattle.std.specs.List.{AllByRecursion}
use Rattle.canvas_shelf.specs.Disk.{is_listed}
use Rattle.canvas_journal.specs.Opening.{paired}
use Rattle.canvas_journal.proofs.Paired.{each_listed, seen_paired}
use Rattle.disk_integrity.specs.declared.listed.Listed.{Listed}
use Rattle.app_admin.specs.Losing.{content_of}
use Rattle.app_admin.proofs.finding_loss.read_each.Goals as goal

pub loop-number-init : goal.loop-number-init
loop-number-init g c =
    let disk = g.S.Shelf.disk c.args.shelf.now in
    let falls = λ (h : _). (g.met.S.Shelf.sound c.args.shelf.now h).falls in
    record {
      honest = refl;
      disk = λ h. (refl, refl);
      listed = λ h. subst (AllByRecursion (λ n. is_listed n disk ≡ true)) (sym (c.requires h)) (each_listed disk (falls h));
      content = λ h. ap (λ (l : List Listed). content_of l ++ paired disk c.args.listing.now) c.new-listed.ensures.items
          ∙ ap (paired disk) (c.requires h) ∙ seen_paired disk (falls h);
    }
