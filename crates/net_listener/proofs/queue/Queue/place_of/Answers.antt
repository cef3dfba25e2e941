use Rattle.std.proofs.Common.{◌∙◌, ap₂, unwrap_or}
use Rattle.net_listener.specs.Queues.{has_number}
use Rattle.net_listener.proofs.QueueLemmas.{place_from_position}
use Rattle.net_listener.proofs.queue.Queue.place_of.Goals as goal

pub returns : goal.returns
returns g c =
    c.unwrap_or.ensures ∙ ap₂ unwrap_or c.position.ensures c.len.ensures ∙ place_from_position (has_number c.args.number) c.args.self.now.waiting.items
