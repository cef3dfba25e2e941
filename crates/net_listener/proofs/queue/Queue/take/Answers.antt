use Rattle.std.proofs.Common.{◌∙◌, ap, sym, remove, slice_get, Global}
use Rattle.std.specs.declared.collections.VecDeque.{VecDeque}
use Rattle.net_listener.specs.declared.queue.Waiting.{Waiting}
use Rattle.net_listener.proofs.QueueLemmas.{find_place, left_from}
use Rattle.net_listener.proofs.queue.Queue.take.Goals as goal

pub returns-clause-takes : goal.returns-clause-takes
returns-clause-takes g c =
    let ws = c.args.self.now.waiting.items in
    let left =
    left_from (λ (v : VecDeque (Waiting g.row.T.Denot) Global). v.items) c.args.self.now.waiting c.remove.new.self c.args.self.now.waiting.len c.place_of-place.result c.remove.result
    c.args.self.now.waiting.ok.0 c.remove.ensures.variant c.remove.ensures.value c.remove.ensures.items c.remove.ensures.unchanged in
    (left.0 ∙ ap (slice_get ws) c.place_of-place.ensures ∙ sym (find_place ws c.args.number), left.1 ∙ ap (remove ws) c.place_of-place.ensures)

pub returns-clause-accounts : goal.returns-clause-accounts
returns-clause-accounts g c =
    (left_from (λ (v : VecDeque (Waiting g.row.T.Denot) Global). v.items) c.args.self.now.waiting c.remove.new.self c.args.self.now.waiting.len c.place_of-place.result c.remove.result
    c.args.self.now.waiting.ok.0 c.remove.ensures.variant c.remove.ensures.value c.remove.ensures.items c.remove.ensures.unchanged).2
