use Rattle.std.proofs.Common.{◌≡◌, ℕ, List, ◌*◌, ◌^◌, ◌<◌, ◌≤◌, ◌+◌, All, sym, ap, subst, arith}
use native.Mathlib.Nat.{pow-le-pow_right}
use Rattle.canvas_model.specs.Position.{IsDigitByte, num}
use Rattle.canvas_pos.proofs.Numbers.{num-below, num-next, num-zero}
use Rattle.canvas_pos.proofs.digits_number.Goals as goal

-- eight digits and one more fit
fits : (s : List ℕ) (i d : ℕ) → All IsDigitByte s → i ≤ 8 → d < 95 → 95 * num s i + d < 18446744073709551616
fits s i d digits few low =
    let here : num s i < 95 ^ i = num-below s i digits in
    let most : 95 ^ i ≤ 95 ^ 8 = pow-le-pow_right {n = 95} (omega arith) few in
    omega (arith, here, most)

pub loop-i-init : goal.loop-i-init
loop-i-init c = sym (num-zero c.args.bytes.now)

pub overflow_mul-number : goal.overflow_mul-number
overflow_mul-number c = omega (arith, c.loop-i.invariant, fits c.args.bytes.now c.loop-i.i 0 c.requires.position.digits (omega arith) (omega arith))

pub overflow_add-number : goal.overflow_add-number
overflow_add-number c =
    omega (arith, c.loop-i.invariant, c.from.ensures, fits c.args.bytes.now c.loop-i.i c.digit.result c.requires.position.digits (omega arith) c.digit.ensures.range)

pub returns-clause-range : goal.returns-clause-range
returns-clause-range c =
    let at : c.loop-i.i ≡ c.args.count = omega arith in
    omega (arith, c.loop-i.invariant, subst (λ n. num c.args.bytes.now n < 95 ^ n) at (num-below c.args.bytes.now c.loop-i.i c.requires.position.digits), ap (num c.args.bytes.now) at)

pub loop-i-preserved : goal.loop-i-preserved
loop-i-preserved c = omega (arith, c.loop-i.invariant, num-next c.args.bytes.now c.loop-i.i, c.digit.ensures.value, c.from.ensures)
