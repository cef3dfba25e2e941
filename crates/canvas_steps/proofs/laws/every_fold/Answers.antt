use Rattle.canvas_steps.proofs.Fold.{each_fold_creates_the_same, each_fold_is_one_less, each_fold_keeps_own, each_fold_shows_the_same, each_fold_stands}
use Rattle.canvas_steps.proofs.laws.every_fold.Goals as goal

pub returns-clause-same : goal.returns-clause-same
returns-clause-same c = each_fold_shows_the_same

pub returns-clause-creates : goal.returns-clause-creates
returns-clause-creates c = each_fold_creates_the_same

pub returns-clause-less : goal.returns-clause-less
returns-clause-less c = each_fold_is_one_less

pub returns-clause-own : goal.returns-clause-own
returns-clause-own c = each_fold_keeps_own

pub returns-clause-stands : goal.returns-clause-stands
returns-clause-stands c = each_fold_stands
