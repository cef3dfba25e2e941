use Rattle.canvas_script.proofs.Scripts.{none_is_bad, one_is_bad}
use Rattle.canvas_script.proofs.script.one_bad_script_line.Goals as goal

pub returns-clause-none : goal.returns-clause-none
returns-clause-none c = none_is_bad

pub returns-clause-one : goal.returns-clause-one
returns-clause-one c = one_is_bad
