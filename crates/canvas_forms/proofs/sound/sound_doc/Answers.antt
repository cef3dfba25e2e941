use Rattle.canvas_forms.proofs.Docs.{rows_sound, doc_ordered}
use Rattle.canvas_forms.proofs.Ranges.{rows_fit}
use Rattle.canvas_forms.proofs.sound.sound_doc.Goals as goal

pub returns-clause-sound : goal.returns-clause-sound
returns-clause-sound g c = rows_sound c.args.doc.now c.objects-objects.ensures.known

pub returns-clause-in_range : goal.returns-clause-in_range
returns-clause-in_range g c = rows_fit c.args.doc.now c.objects-objects.ensures.known

pub returns-clause-orderly : goal.returns-clause-orderly
returns-clause-orderly g c = doc_ordered c.args.doc.now c.objects-objects.ensures.document
