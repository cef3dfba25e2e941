use Rattle.std.proofs.Common.{sym, ◌∙◌}
use Rattle.app_tokens.proofs.Cuts.{cut_at, cut_none}
use Rattle.app_tokens.proofs.parts.cut.Goals as goal

pub returns-in-Some-clause-cut : goal.returns-in-Some-clause-cut
returns-in-Some-clause-cut c = cut_at c.args.gaps.now c.args.text.now c.in-Some.at (sym c.in-Some.is ∙ c.first_of.ensures)

pub returns-in-None-clause-cut : goal.returns-in-None-clause-cut
returns-in-None-clause-cut c = cut_none c.args.gaps.now c.args.text.now (sym c.in-None.is ∙ c.first_of.ensures)
