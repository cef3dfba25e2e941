use Rattle.std.proofs.Common.{◌≡◌, ◌+◌, sym, ◌∙◌, arith, rules}
use Rattle.std.specs.Option.{option_copied}
use Rattle.std.proofs.lemmas.List.Elements.{All-push}
use Rattle.canvas_model.specs.Position.{IsDigitByte}
use Rattle.canvas_pos.proofs.Numbers.{num-zero, num-push}
use Rattle.canvas_pos.proofs.Gaps.{greatest_before-zero}
use Rattle.canvas_pos.proofs.half_way.Goals as goal

pub loop-i-init : goal.loop-i-init
loop-i-init g c = record {
  len = search rules;
  digits = rw c.in_ok-bytes.ensures.items (λ k d h. absurd (omega arith));
  value = num-zero c.in_ok-bytes.bytes.items ∙ sym (greatest_before-zero (option_copied c.args.lo));
}

pub loop-i-preserved : goal.loop-i-preserved
loop-i-preserved g c = record {
  len = search rules;
  digits = rw c.in_ok-push.ensures.items
      (All-push IsDigitByte c.loop-i.bytes.items (32 + c.low_digit.result) c.loop-i.invariant.digits (record { low = omega arith; high = omega arith }));
  value = rw c.in_ok-push.ensures.items
      (omega (arith, num-push c.loop-i.bytes.items (32 + c.low_digit.result) c.loop-i.i (search rules), c.low_digit.ensures.value, c.loop-i.invariant.value));
}

pub returns-clause-value : goal.returns-clause-value
returns-clause-value g c =
    let at : c.loop-i.i ≡ c.args.gap.before = omega arith in
    rw (← at, c.in_ok-push-2.ensures.items)
    (omega (arith, num-push c.loop-i.bytes.items (32 + c.args.gap.last) c.loop-i.i (search rules), c.loop-i.invariant.value))
