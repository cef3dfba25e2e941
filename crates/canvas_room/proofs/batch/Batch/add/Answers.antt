use Rattle.std.proofs.Common.{List, arith, subst, sym}
use mathlib.Core.List.{IsPrefix}
use Rattle.canvas_board.specs.Marks.{Mark}
use Rattle.canvas_room.specs.Batches.{seen_of}
use Rattle.canvas_room.proofs.Saying.{seen_push}
use Rattle.canvas_room.proofs.batch.Batch.add.Goals as goal

pub loop-request-preserved : goal.loop-request-preserved
loop-request-preserved g c =
    let inv = c.loop-request.invariant in
    let asked = c.push_reserved.ensures in
    let sent = c.push_reserved-in-loop-request.ensures in
    let next = c.in-Some.ensures.steps in
    record {
      requests = let h = inv.requests in let l = asked.len in let n = next.1 in omega (arith, h, l, n);
      senders = let h = inv.senders in let l = sent.len in let n = next.1 in omega (arith, h, l, n);
      wide = let h = inv.wide in let k = asked.capacity in omega (arith, h, k);
      long = let h = inv.long in let k = sent.capacity in omega (arith, h, k);
      runs = inv.runs;
      seen = λ history pre before. seen_push history seen_of c.loop-request.self.senders.items c.push_reserved-in-loop-request.new.self.items _ sent.items (inv.seen history pre before) (subst (λ (l : List Mark). IsPrefix l history) (sym c.again.ensures.same) pre);
    }
