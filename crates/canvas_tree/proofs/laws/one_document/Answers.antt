use Rattle.canvas_tree.proofs.Headline.{headline}
use Rattle.canvas_tree.proofs.laws.one_document.Goals as goal

pub returns : goal.returns
returns c = headline c.every_log.ensures.sound c.every_run.ensures.claims c.every_run.ensures.agree c.every_run.ensures.no_cycle c.every_run.ensures.kept c.one_tree.ensures.some c.one_tree.ensures.one c.reads_tree.ensures.chains
