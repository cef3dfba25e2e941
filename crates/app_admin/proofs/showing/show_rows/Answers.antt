use Rattle.std.proofs.Common.{List, subst}
use Rattle.canvas_shelf.specs.Disk.{Segment}
use Rattle.app_admin.specs.Shown.{WritesRowsOf}
use Rattle.app_admin.proofs.showing.show_rows.Goals as goal

pub returns-in-Ok-clause-found : goal.returns-in-Ok-clause-found
returns-in-Ok-clause-found g c = λ h.
    let s = c.in_ok-shelf.ensures.holds h in
    subst (λ (d : List Segment). WritesRowsOf d c.args.layout (g.W.Write.contents c.args.output.now) (g.W.Write.contents c.show_rows_of.new.output)) s.1 (c.in-Ok.ensures.found s.0)

-- the home makes no other fault a stream's
pub returns-clause-unwritten : goal.returns-clause-unwritten
returns-clause-unwritten g c = λ other. c.in-Err.ensures.unwritten (λ stream. other (c.explain.ensures.stream stream))
