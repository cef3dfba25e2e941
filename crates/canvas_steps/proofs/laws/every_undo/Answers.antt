use Rattle.canvas_steps.proofs.Again.{each_deletion_is_taken_back, each_is_made_again}
use Rattle.canvas_steps.proofs.Back.{each_change_is_taken_back, each_other_stays, each_step_is_taken_back}
use Rattle.canvas_steps.proofs.Undo.{each_note_restores}
use Rattle.canvas_steps.proofs.laws.every_undo.Goals as goal

pub returns-clause-change : goal.returns-clause-change
returns-clause-change c = each_change_is_taken_back

pub returns-clause-step : goal.returns-clause-step
returns-clause-step c = each_step_is_taken_back

pub returns-clause-others : goal.returns-clause-others
returns-clause-others c = each_other_stays

pub returns-clause-again : goal.returns-clause-again
returns-clause-again c = each_is_made_again

pub returns-clause-deletion : goal.returns-clause-deletion
returns-clause-deletion c = each_deletion_is_taken_back

pub returns-clause-note : goal.returns-clause-note
returns-clause-note c = each_note_restores
