use Rattle.canvas_doc.proofs.Searched.{taken_out, none_taken}
use Rattle.canvas_doc.proofs.sorted.take_out.Goals as goal

pub returns-in-Ok : goal.returns-in-Ok
returns-in-Ok g c = taken_out g.met.K.Ord.total _ _ c.requires c.deref.ensures.value _ _ _ c.in-Ok.ensures.found c.remove.ensures.items

pub returns-in_default : goal.returns-in_default
returns-in_default g c = none_taken g.met.K.Ord.total _ _ c.requires c.deref.ensures.value _ _ c.in_default.ensures.absent
