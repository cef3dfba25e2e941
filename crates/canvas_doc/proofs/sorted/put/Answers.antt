use Rattle.canvas_doc.proofs.Searched.{put_there}
use Rattle.canvas_doc.proofs.sorted.put.Goals as goal

pub returns-in-Ok-clause-ok : goal.returns-in-Ok-clause-ok
returns-in-Ok-clause-ok g c = put_there g.met.K.Ord.total _ _ c.requires c.deref.ensures.value _ _ _ _ c.in-Ok.ensures.found c.index_mut.ensures.value
