use Rattle.std.proofs.Common.{List, subst}
use Rattle.canvas_shelf.specs.Disk.{Segment}
use Rattle.app_admin.specs.Shown.{WritesTreeOf}
use Rattle.app_admin.proofs.showing.show_tree.Goals as goal

pub returns-in-Ok-clause-found : goal.returns-in-Ok-clause-found
returns-in-Ok-clause-found g c = λ h.
    let s = c.in_ok-shelf.ensures.holds h in
    subst (λ (d : List Segment). WritesTreeOf d (g.W.Write.contents c.args.output.now) (g.W.Write.contents c.show_tree_of.new.output)) s.1 (c.in-Ok.ensures.found s.0)
