-- Some more were taken.
use Rattle.std.proofs.Common.{◌+◌, List, ℕ, sym, subst, arith}
use Rattle.net_outbox.specs.Giving.{Gives}
use Rattle.net_outbox.proofs.Parts.{given_length, gives_more, gives_nothing}
use Rattle.net_outbox.proofs.outbox.give.Goals as goal

pub loop-left-init : goal.loop-left-init
loop-left-init g c = record {
  counted = omega arith;
  waits = c.len-whole.ensures;
  gives = gives_nothing (g.S.Write.contents c.args.stream.now) c.args.unsent.now;
}

pub loop-left-preserved : goal.loop-left-preserved
loop-left-preserved g c =
    let was = c.loop-left.invariant in
    let left = given_length _ _ c.in-Ok.more c.loop-left.unsent c.give_some.new.self c.in-Ok.ensures.gives in
    let all = gives_more _ _ _ c.loop-left.count c.in-Ok.more c.args.unsent.now c.loop-left.unsent c.give_some.new.self was.gives c.in-Ok.ensures.gives in
    let now = rw c.tidy.ensures at c.len-left.ensures in
    record {
      counted = omega (arith, was.counted, was.waits, left, now);
      waits = c.len-left.ensures;
      gives = subst (λ (l : List ℕ). Gives (g.S.Write.contents c.args.stream.now) (g.S.Write.contents c.give_some.new.stream) (c.loop-left.count + c.in-Ok.more) c.args.unsent.now l) (sym c.tidy.ensures) all;
    }
