use Rattle.std.proofs.Common.{subst}
use Rattle.canvas_model.specs.Document.{Doc}
use Rattle.canvas_lines.specs.Reports.{IsReportText}
use Rattle.canvas_daemon.proofs.showing.report.Goals as goal

pub returns-clause-found : goal.returns-clause-found
returns-clause-found g c honest = (
  (c.in_ok-state.state, c.in_ok-state.version),
  c.in_ok-state.ensures.found honest,
  subst (λ (d : Doc). IsReportText c.in_ok-state.version d c.in_ok-text.text.items) c.doc.ensures.doc c.in_ok-text.ensures,
)
