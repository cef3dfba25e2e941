use Rattle.std.proofs.Common.{◌≡◌, ◌≤◌, ◌<◌, ◌+◌, ◌^◌, ◌++◌, length, map}
use Rattle.std.specs.Vec.Iter.{into_iter_items, into_iter_len}
use Rattle.canvas_threads.proofs.nodes.jobs_of.Given as goal

abbrev pub invariant-loop-plan : goal.invariant-loop-plan
invariant-loop-plan g l = record {
  made : map (λ job. job.plan) l.jobs.items ++ into_iter_items l.plan-iterator ≡ into_iter_items l.initial.plan-iterator;
  left : into_iter_len l.plan-iterator ≡ length (into_iter_items l.plan-iterator);
  sites : length (into_iter_items l.plan-iterator) ≤ length (into_iter_items l.sites);
  sites_left : into_iter_len l.sites ≡ length (into_iter_items l.sites);
  numbers : l.number + length (into_iter_items l.plan-iterator) < 2 ^ 64;
}
