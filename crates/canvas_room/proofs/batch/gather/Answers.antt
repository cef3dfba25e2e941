use Rattle.std.proofs.Common.{arith}
use Rattle.canvas_room.proofs.batch.gather.Goals as goal

pub loop-turn-preserved : goal.loop-turn-preserved
loop-turn-preserved g c =
    let inv = c.loop-turn.invariant in
    let added = c.add_run.ensures in
    record {
      requests = let h = inv.requests in let a = added.requests in let m = c.in-Some.ensures.most in let l = c.len.ensures in omega (arith, h, a, m, l);
      senders = let h = inv.senders in let a = added.requests in let b = added.senders in omega (arith, h, a, b);
      runs = let h = inv.runs in let a = added.runs in omega (arith, h, a);
      wide = let h = inv.wide in let a = added.wide in omega (arith, h, a);
      long = let h = inv.long in let a = added.long in omega (arith, h, a);
      places = let h = inv.places in let a = added.places in omega (arith, h, a);
      seen = added.seen c.args.shown.now c.in-Some.ensures.seen inv.seen;
    }
