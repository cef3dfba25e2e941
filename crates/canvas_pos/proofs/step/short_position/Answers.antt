use Rattle.std.proofs.Common.{◌≡◌, ◌+◌, ◌*◌, ◌/◌, ◌^◌, arith, rules, subst}
use Rattle.std.proofs.lemmas.List.Elements.{All-push}
use Rattle.canvas_model.specs.Position.{IsDigitByte, num}
use Rattle.canvas_pos.proofs.Numbers.{num-zero}
use Rattle.canvas_pos.proofs.Steps.{digit-more, digits-all, last-pushed, rest-none}
use Rattle.canvas_pos.proofs.step.short_position.Goals.{else-loop-test, then-loop-test+then-rest-eq0}
use Rattle.canvas_pos.proofs.step.short_position.Goals as goal

pub loop-init : goal.loop-init
loop-init g c = record {
  len = search rules;
  digits = rw c.in_ok-bytes.ensures.items (λ k d h. absurd (omega arith));
  part = c.requires.few;
  value = omega (arith, num-zero c.in_ok-bytes.bytes.items);
  some = λ e. absurd (omega (arith, c.requires.some));
  last = λ e. absurd (omega (arith, c.requires.some));
}

pub loop-preserved : goal.loop-preserved
loop-preserved g c = record {
  len = search rules;
  digits = rw c.in_ok-push.ensures.items
      (All-push IsDigitByte c.loop.bytes.items (32 + 95 * c.loop.rest / 81450625) c.loop.invariant.digits (record { low = omega arith; high = omega (arith, c.loop.invariant.part) }));
  part = omega arith;
  value = rw c.in_ok-push.ensures.items (digit-more c.loop.bytes.items c.loop.counter c.args.steps c.loop.rest (search rules) c.loop.invariant.value);
  some = λ e. omega arith;
  last = λ e. rw c.in_ok-push.ensures.items
      (last-pushed c.loop.bytes.items (32 + 95 * c.loop.rest / 81450625) c.loop.counter (search rules) (omega (arith, e, c.if-rest-eq0.false)));
}

pub returns-clause-value : goal.returns-clause-value
returns-clause-value g c =
    let none : c.loop.rest ≡ 0 = elim c.loop-test.branch [
      | else-loop-test w ↦
          let four : c.loop.counter ≡ 4 = omega (arith, w.loop-test.false) in
          rest-none c.loop.bytes.items c.args.steps c.loop.rest (subst (λ n. num c.loop.bytes.items n * 81450625 + c.loop.rest ≡ c.args.steps * 95 ^ n) four c.loop.invariant.value) c.loop.invariant.part
      | then-loop-test+then-rest-eq0 w ↦ w.if-rest-eq0.true
    ] in
    digits-all c.loop.bytes.items c.loop.counter c.args.steps c.loop.rest (omega arith) (search rules) c.loop.invariant.value none
