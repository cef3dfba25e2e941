use Rattle.std.proofs.Common.{◌≡◌, length}
use Rattle.std.specs.Prelude.{All, IsSome}
use Rattle.std.specs.Vec.Iter.{into_iter_items, into_iter_len}
use Rattle.canvas_threads.specs.Shown.{Ends}
use Rattle.canvas_threads.proofs.Lists.{Completes}
use Rattle.canvas_threads.proofs.nodes.finish_all.Given as goal

abbrev pub invariant-loop-done : goal.invariant-loop-done
invariant-loop-done g l = record {
  ended : Completes (λ done client. Ends g.S.Site.follows g.S.Site.shows done.site done.client client) (into_iter_items l.initial.done-iterator) (into_iter_items l.done-iterator) l.clients.items;
  left : into_iter_len l.done-iterator ≡ length (into_iter_items l.done-iterator);
  joined : All (λ done. IsSome done.client.id) (into_iter_items l.done-iterator);
}
