use Rattle.canvas_forms.proofs.Docs.{row_sound}
use Rattle.canvas_forms.proofs.Ranges.{row_fits}
use Rattle.canvas_forms.proofs.sound.sound_row.Goals as goal

pub returns-clause-sound : goal.returns-clause-sound
returns-clause-sound g c = row_sound c.args.row.now c.every_part.ensures

pub returns-clause-in_range : goal.returns-clause-in_range
returns-clause-in_range g c = row_fits c.args.row.now (c.know_id.ensures, c.every_part.ensures)
