use Rattle.canvas_forms.proofs.SoundTexts.{change_sound}
use Rattle.canvas_forms.proofs.Ranges.{change_fits}
use Rattle.canvas_forms.proofs.sound.sound_change.Goals as goal

pub returns-clause-sound : goal.returns-clause-sound
returns-clause-sound g c = change_sound c.args.change.now c.every_part.ensures

pub returns-clause-in_range : goal.returns-clause-in_range
returns-clause-in_range g c = change_fits c.args.change.now c.every_part.ensures
