-- How the request of an entry was judged.
use Rattle.canvas_model.specs.Log.{What, Join, Edit}
use Rattle.canvas_model.specs.Verdict.{Outcome, Refused}
use Rattle.app_metrics.specs.declared.judged.Judgement.{Judgement}
use Rattle.app_metrics.specs.declared.judged.Judgement.TheVariants as judged

-- a Join got its id; an edit was refused for a reason, or let pass
abbrev pub judged_of : What → Outcome → Judgement
judged_of Join outcome = judged.Joined
judged_of (Edit change) (Refused reason stands) = judged.Refused reason
judged_of (Edit change) _ = judged.Accepted
