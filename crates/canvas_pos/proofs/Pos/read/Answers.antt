use Rattle.std.proofs.Common.{rules, arith}
use Rattle.std.proofs.lemmas.Grind.{common_steps}
use Rattle.canvas_pos.proofs.Text.{All-digits}
use Rattle.canvas_pos.proofs.Pos.read.Goals.{then-b-lt32-via-then-b-lt32, then-b-lt32-via-else-b-lt32+then-b-gt126}
use Rattle.canvas_pos.proofs.Pos.read.Goals as goal

pub returns-then-b-lt32-clause-fault : goal.returns-then-b-lt32-clause-fault
returns-then-b-lt32-clause-fault g c = (
  omega arith,
  record {
    within = omega arith;
    bad = λ d. elim c.then-b-lt32.branch [
      | then-b-lt32-via-then-b-lt32 w ↦ absurd (grind (arith, common_steps, d.low))
      | then-b-lt32-via-else-b-lt32+then-b-gt126 w ↦ absurd (grind (arith, common_steps, d.high))
    ];
    before = c.loop-i.invariant;
  },
)

pub returns-then-bytes-eq32-clause-fault : goal.returns-then-bytes-eq32-clause-fault
returns-then-bytes-eq32-clause-fault g c =
    (search rules, omega arith, All-digits c.args.bytes.now c.loop-i.i (omega arith) c.loop-i.invariant, search rules)

pub invariant_of-result : goal.invariant_of-result
invariant_of-result g c = rw c.in-Ok.ensures.items (record {
  not_empty = search rules;
  short = omega arith;
  digits = All-digits c.args.bytes.now c.loop-i.i (omega arith) c.loop-i.invariant;
  last = grind (arith, common_steps);
})

pub returns-in-Ok-clause-position : goal.returns-in-Ok-clause-position
returns-in-Ok-clause-position g c = rw c.in-Ok.ensures.items (record {
  not_empty = search rules;
  short = omega arith;
  digits = All-digits c.args.bytes.now c.loop-i.i (omega arith) c.loop-i.invariant;
  last = grind (arith, common_steps);
})

pub returns-in-Err-clause-fault : goal.returns-in-Err-clause-fault
returns-in-Err-clause-fault g c = record {
  not_empty = search rules;
  short = omega arith;
  digits = All-digits c.args.bytes.now c.loop-i.i (omega arith) c.loop-i.invariant;
  last = grind (arith, common_steps);
}
