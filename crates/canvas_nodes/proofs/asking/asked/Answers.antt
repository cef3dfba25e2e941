use Rattle.std.proofs.Common.{◌≡◌, true, false}
use Rattle.canvas_judge.specs.Seen.{seen_message}
use Rattle.canvas_nodes.proofs.Unasked.{other_spelled, refused_for}
use Rattle.canvas_nodes.proofs.asking.asked.Goals as goal

pub returns-else-is_asked-clause-err : goal.returns-else-is_asked-clause-err
returns-else-is_asked-clause-err c = other_spelled c.args.bytes.now (seen_message c.in-Ok.message) c.in-Ok.ensures.only (λ a. let f : false ≡ true = c.if-is_asked.ensures.1 a in absurd (cc))

pub returns-in-Err : goal.returns-in-Err
returns-in-Err c = record {
  ok = tt;
  err = refused_for c.args.bytes.now c.in-Err.error c.reason_of.result c.reason_of.ensures c.in-Err.ensures.only_memory;
}
