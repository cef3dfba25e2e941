use Rattle.std.proofs.Common.{sym, ap, ◌∙◌}
use Rattle.std.proofs.lemmas.Slice.Eq.{slice_eq-Decides}
use Rattle.canvas_model.specs.Verdict.{Removed}
use Rattle.canvas_judge.specs.Seen.{seen_outcome}
use Rattle.canvas_doc.proofs.Laid.{same_ids}
use Rattle.canvas_judge.proofs.Compared.{same_removed}
use Rattle.canvas_judge.proofs.outcome.Outcome.same.Goals as goal

pub returns-in-Removed-Removed : goal.returns-in-Removed-Removed
returns-in-Removed-Removed g c =
    same_removed (seen_outcome c.args.self.now) (seen_outcome c.args.other.now) c.as_slice.result.now c.as_slice-in-Removed-Removed.result.now c.eq.result
    (ap seen_outcome c.in-Removed-Removed.is-0 ∙ ap Removed (sym c.as_slice.ensures.value))
    (ap seen_outcome c.in-Removed-Removed.is-1 ∙ ap Removed (sym c.as_slice-in-Removed-Removed.ensures.value))
    (slice_eq-Decides same_ids c.as_slice.result.now c.as_slice-in-Removed-Removed.result.now c.eq.result c.eq.ensures)
