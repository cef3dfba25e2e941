use Rattle.std.proofs.Common.{◌<◌, ◌+◌, length, take, ◌*◌, below_more, sym, ap, ◌∙◌, arith}
use Rattle.std.proofs.lemmas.Bool.Decides.{nat_tests}
use Rattle.std.specs.Fmt.{decimal}
use Rattle.canvas_model.proofs.Spelled.{not_empty, not_long, no_leading_zero, digits, value_is, value_more, power_more, spelled, value_of, whole_value}
use Rattle.canvas_model.proofs.words.read_number.Goals as goal

pub returns-then-is_empty-clause-none : goal.returns-then-is_empty-clause-none
returns-then-is_empty-clause-none c n small is = let some = not_empty c.args.bytes.now n small is in let e = c.is_empty.ensures in let t = c.if-is_empty.true in grind (arith, nat_tests)

pub returns-then-bytes-gt10-clause-none : goal.returns-then-bytes-gt10-clause-none
returns-then-bytes-gt10-clause-none c n small is = let few = not_long c.args.bytes.now n small is in omega arith

pub returns-then-has_leading_zero-clause-none : goal.returns-then-has_leading_zero-clause-none
returns-then-has_leading_zero-clause-none c n small is = let h = c.has_leading_zero.ensures.0 c.if-has_leading_zero.true in no_leading_zero c.args.bytes.now n small is h.0 h.1

pub returns-then-byte-lt48-clause-none : goal.returns-then-byte-lt48-clause-none
returns-then-byte-lt48-clause-none c n small is = let d = digits c.args.bytes.now n small is c.loop-byte.byte-index (omega arith) in omega (arith, d.0, d.1)

pub returns-then-byte-gt57-clause-none : goal.returns-then-byte-gt57-clause-none
returns-then-byte-gt57-clause-none c n small is = let d = digits c.args.bytes.now n small is c.loop-byte.byte-index (omega arith) in omega (arith, d.0, d.1)

pub returns-in-Ok-clause-some : goal.returns-in-Ok-clause-some
returns-in-Ok-clause-some c =
    let some : 0 < length c.args.bytes.now = let e = c.is_empty.ensures in let f = c.if-is_empty.false in grind (arith, nat_tests) in
    spelled c.args.bytes.now c.loop-byte.byte-index c.loop-byte.value c.loop-byte.invariant.value c.loop-byte-test.false c.loop-byte.invariant.digits some
    (λ z more. let t = c.has_leading_zero.ensures.1 (z, more) in let f = c.if-has_leading_zero.false in cc) (omega arith)
    ∙ ap decimal (sym c.in-Ok.ensures.1)

pub returns-in-Err-clause-none : goal.returns-in-Err-clause-none
returns-in-Err-clause-none c n small is =
    let a = whole_value c.args.bytes.now c.loop-byte.byte-index c.loop-byte.value c.loop-byte.invariant.value c.loop-byte-test.false in
    let b = value_is c.args.bytes.now n small is in
    c.in-Err.ensures (omega arith)

pub loop-byte-preserved : goal.loop-byte-preserved
loop-byte-preserved c = record {
  value = ap (λ v. v * 10 + c.from.result) c.loop-byte.invariant.value ∙ ap (λ d. value_of (take c.loop-byte.byte-index c.args.bytes.now) * 10 + d) c.from.ensures
      ∙ sym (value_more c.args.bytes.now c.loop-byte.byte-index c.loop-byte-test.true c.if-byte-lt48.false c.if-byte-gt57.false);
  small = power_more _ _ _ c.loop-byte.invariant.small (omega arith);
  digits = below_more _ _ c.loop-byte.invariant.digits (c.if-byte-lt48.false, c.if-byte-gt57.false);
}
