use Rattle.std.proofs.Common.{◌∙◌, ℕ, List, IsTrue, ap, subst, sym}
use Rattle.std.specs.Io.KnownBytes.{Appends}
use Rattle.std.proofs.KnownBytes.{Appends-trans}
use Rattle.canvas_model.specs.State.{State}
use Rattle.canvas_shelf.specs.Disk.{Segment, seen}
use Rattle.canvas_journal.specs.Found.{Finds, IsState}
use Rattle.canvas_journal.specs.Meaning.{Versioned}
use Rattle.app_admin.specs.Checks.{segment_lines, taken_line}
use Rattle.app_admin.specs.Taken.{TakesFrom, source_of}
use Rattle.app_admin.proofs.checking.check_shelf.Goals as goal

pub returns-clause-found : goal.returns-clause-found
returns-clause-found g c = λ h.
    let disk = g.S.Shelf.disk c.args.shelf.now in
    let state : State = c.in_ok-_state._state in
    let s : Versioned = (state, c.in_ok-_state.version) in
    let source = source_of c.in_ok-taken.taken in
    let at_list = subst IsTrue (sym c.list.ensures.honest) h in
    let at_lines = subst IsTrue (sym c.lines_of.ensures.honest) at_list in
    let at_look = subst IsTrue (sym c.look.ensures.honest) at_lines in
    let listed = (c.list.ensures.disk h).0 in
    let lined = (c.lines_of.ensures.disk at_list).0 ∙ listed in
    let looked = (c.look.ensures.disk at_lines).0 ∙ lined in
    let finds : Finds (seen disk) (IsState s) = subst (λ (d : List Segment). Finds (seen d) (IsState s)) lined (c.in_ok-_state.ensures.found at_lines) in
    let takes : TakesFrom (seen disk) source =
    subst (λ (d : List Segment). TakesFrom (seen d) source) looked
    (c.in_ok-taken.ensures.taken at_look s (subst (λ (d : List Segment). Finds (seen d) (IsState s)) (sym looked) finds)) in
    let first = c.deref-2.ensures.value ∙ c.in_ok-lines.ensures.lines at_list ∙ ap (λ (d : List Segment). segment_lines (seen d)) listed in
    let last = c.as_bytes.ensures.value ∙ c.in_ok-line.ensures in (
      source,
      s,
      takes,
      finds,
      Appends-trans (g.W.Write.contents c.args.output.now) (g.W.Write.contents c.write_out.new.output) (g.W.Write.contents c.write_out-2.new.output) (segment_lines (seen disk)) (taken_line source s.1)
          (subst (λ (t : List ℕ). Appends (g.W.Write.contents c.args.output.now) (g.W.Write.contents c.write_out.new.output) t) first c.in_ok-write_out.ensures.bytes)
          (subst (λ (t : List ℕ). Appends (g.W.Write.contents c.write_out.new.output) (g.W.Write.contents c.write_out-2.new.output) t) last c.in_ok-write_out-2.ensures.bytes),
    )

pub returns-clause-form : goal.returns-clause-form
returns-clause-form g c =
    let source = source_of c.in_ok-taken.taken in
    let form = c.in_ok-lines.ensures.form in
    let first = c.deref-2.ensures.value ∙ form.1 in
    let last = c.as_bytes.ensures.value ∙ c.in_ok-line.ensures in (
      form.0,
      source,
      c.in_ok-_state.version,
      Appends-trans (g.W.Write.contents c.args.output.now) (g.W.Write.contents c.write_out.new.output) (g.W.Write.contents c.write_out-2.new.output) (segment_lines form.0) (taken_line source c.in_ok-_state.version)
          (subst (λ (t : List ℕ). Appends (g.W.Write.contents c.args.output.now) (g.W.Write.contents c.write_out.new.output) t) first c.in_ok-write_out.ensures.bytes)
          (subst (λ (t : List ℕ). Appends (g.W.Write.contents c.write_out.new.output) (g.W.Write.contents c.write_out-2.new.output) t) last c.in_ok-write_out-2.ensures.bytes),
    )
