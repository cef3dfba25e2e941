use Rattle.std.proofs.Common.{List, ℕ, subst}
use Rattle.std.specs.Io.KnownBytes.{Appends}
use Rattle.canvas_model.specs.Document.{Doc}
use Rattle.canvas_lines.specs.Reports.{IsReportText}
use Rattle.app_admin.proofs.showing.show_tree_of.Goals as goal

pub returns-clause-found : goal.returns-clause-found
returns-clause-found g c honest = (
  (c.in_ok-state.state, c.in_ok-state.version),
  c.in_ok-text.text.items,
  c.in_ok-state.ensures.found honest,
  subst (λ (d : Doc). IsReportText c.in_ok-state.version d c.in_ok-text.text.items) c.doc.ensures.doc c.in_ok-text.ensures,
  subst (λ (t : List ℕ). Appends (g.W.Write.contents c.args.output.now) (g.W.Write.contents c.write_out.new.output) t) c.deref.ensures.value c.in_ok-write_out.ensures.bytes,
)

pub returns-clause-form : goal.returns-clause-form
returns-clause-form g c = (
  c.in_ok-text.text.items,
  (c.in_ok-state.version, c.doc.result.now, c.in_ok-text.ensures),
  subst (λ (t : List ℕ). Appends (g.W.Write.contents c.args.output.now) (g.W.Write.contents c.write_out.new.output) t) c.deref.ensures.value c.in_ok-write_out.ensures.bytes,
)
