use Rattle.std.proofs.Common.{◌∙◌, sym, ap, arith}
use Rattle.std.specs.Cmp.Lexicographic.{other_text, same_text}
use Rattle.canvas_decimals.specs.Decimals.{read_on, ten_digits}
use Rattle.canvas_decimals.proofs.Decimals.{read_ten}
use Rattle.canvas_decimals.proofs.read_ten_digits.Goals as goal

pub returns-in_err-number-clause-none : goal.returns-in_err-number-clause-none
returns-in_err-number-clause-none c = rw c.from_residual.ensures (λ number less e.
    (let is = ap (read_on 0) e ∙ read_ten number (omega arith) in omega (arith, is, c.in_err-number.ensures.none)))

pub returns-then-number-gt9999999999-clause-none : goal.returns-then-number-gt9999999999-clause-none
returns-then-number-gt9999999999-clause-none c = λ number less e.
    (let is = c.in_ok-number.ensures.some ∙ ap (read_on 0) e ∙ read_ten number less in omega (arith, is, c.if-number-gt9999999999.true))

pub returns-then-eq-clause-some : goal.returns-then-eq-clause-some
returns-then-eq-clause-some c = sym (same_text _ _ c.if-eq.ensures) ∙ c.as_slice.ensures ∙ c.ten_digits.ensures

pub returns-else-eq-clause-none : goal.returns-else-eq-clause-none
returns-else-eq-clause-none c = λ number less e.
    (let is = c.in_ok-number.ensures.some ∙ ap (read_on 0) e ∙ read_ten number (omega arith) in
    other_text _ _ c.if-eq.ensures (c.as_slice.ensures ∙ c.ten_digits.ensures ∙ ap ten_digits is ∙ sym e))
