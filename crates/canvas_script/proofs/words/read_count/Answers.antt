use Rattle.std.proofs.Common.{◌<◌, length, take, ◌*◌, ◌+◌, below_more, sym, ap, ◌∙◌, arith}
use Rattle.std.proofs.Math.Nat.{pow-le-pow_right}
use Rattle.std.proofs.lemmas.Bool.Decides.{nat_tests}
use Rattle.canvas_model.proofs.Spelled.{value_more, power_more, spelled, value_of, whole_value}
use Rattle.canvas_script.proofs.Counts.{count_some, count_short, count_lead, count_digits, count_value}
use Rattle.canvas_script.proofs.words.read_count.Goals as goal

pub returns-then-is_empty-clause-err : goal.returns-then-is_empty-clause-err
returns-then-is_empty-clause-err c n s = let some = count_some c.args.word.now n s.0 s.1 in let e = c.is_empty.ensures in let t = c.if-is_empty.true in grind (arith, nat_tests)

pub returns-then-word-gt-MAX_DIGITS-clause-err : goal.returns-then-word-gt-MAX_DIGITS-clause-err
returns-then-word-gt-MAX_DIGITS-clause-err c n s = let few = count_short c.args.word.now n s.0 s.1 in omega arith

pub returns-then-has_leading_zero-clause-err : goal.returns-then-has_leading_zero-clause-err
returns-then-has_leading_zero-clause-err c n s = let h = c.has_leading_zero.ensures.0 c.if-has_leading_zero.true in count_lead c.args.word.now n s.0 s.1 h.0 h.1

pub returns-then-byte-lt48-clause-err : goal.returns-then-byte-lt48-clause-err
returns-then-byte-lt48-clause-err c n s = let d = count_digits c.args.word.now n s.0 s.1 c.loop-byte.byte-index (omega arith) in omega (arith, d.0, d.1)

pub returns-then-byte-gt57-clause-err : goal.returns-then-byte-gt57-clause-err
returns-then-byte-gt57-clause-err c n s = let d = count_digits c.args.word.now n s.0 s.1 c.loop-byte.byte-index (omega arith) in omega (arith, d.0, d.1)

pub returns-then-value-gt-MAX_COUNT-clause-err : goal.returns-then-value-gt-MAX_COUNT-clause-err
returns-then-value-gt-MAX_COUNT-clause-err c n s =
    let a = whole_value c.args.word.now c.loop-byte.byte-index c.loop-byte.value c.loop-byte.invariant.value c.loop-byte-test.false in
    let b = count_value c.args.word.now n s.0 s.1 in
    omega (arith, a, b, s.0)

pub returns-clause-ok : goal.returns-clause-ok
returns-clause-ok c =
    let some : 0 < length c.args.word.now = let e = c.is_empty.ensures in let f = c.if-is_empty.false in grind (arith, nat_tests) in (
      omega arith,
      spelled c.args.word.now c.loop-byte.byte-index c.loop-byte.value c.loop-byte.invariant.value c.loop-byte-test.false c.loop-byte.invariant.digits some
          (λ z more. let t = c.has_leading_zero.ensures.1 (z, more) in let f = c.if-has_leading_zero.false in cc) (omega arith),
    )

pub loop-byte-preserved : goal.loop-byte-preserved
loop-byte-preserved c = record {
  value = ap (λ v. v * 10 + c.from.result) c.loop-byte.invariant.value ∙ ap (λ d. value_of (take c.loop-byte.byte-index c.args.word.now) * 10 + d) c.from.ensures
      ∙ sym (value_more c.args.word.now c.loop-byte.byte-index c.loop-byte-test.true c.if-byte-lt48.false c.if-byte-gt57.false);
  small = power_more _ _ _ c.loop-byte.invariant.small (omega arith);
  digits = below_more _ _ c.loop-byte.invariant.digits (c.if-byte-lt48.false, c.if-byte-gt57.false);
}

pub overflow_mul-value : goal.overflow_mul-value
overflow_mul-value c = let p = pow-le-pow_right {n = 10} (omega arith) {i = c.loop-byte.byte-index} {j = 18} (omega arith) in omega (arith, p, c.loop-byte.invariant.small)

pub overflow_add-value : goal.overflow_add-value
overflow_add-value c = let p = pow-le-pow_right {n = 10} (omega arith) {i = c.loop-byte.byte-index} {j = 18} (omega arith) in omega (arith, p, c.loop-byte.invariant.small)
