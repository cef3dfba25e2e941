use Rattle.std.proofs.Common.{sym, codes, append_assoc}
use Rattle.std.proofs.Output.{has_written_of_eq}
use Rattle.app_metrics.specs.Numbers.{noes_text, refusals_text}
use Rattle.app_metrics.specs.Prometheus.{counter}
use Rattle.app_metrics.proofs.text.EditsTextDisplay.fmt.Goals as goal

pub returns-clause-writes : goal.returns-clause-writes
returns-clause-writes g c =
    let n = c.args.self.now.0.now in
    let parts = sym (append_assoc (counter (codes "lugcurrant_edits_total") n.edits) (refusals_text n.refusals) (noes_text n.noes)) in
    λ plain ok. has_written_of_eq _ _ _ _ _ parts (c.write.ensures.writes plain ok)
