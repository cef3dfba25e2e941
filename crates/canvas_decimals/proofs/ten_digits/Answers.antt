use Rattle.std.proofs.Common.{refl}
use Rattle.canvas_decimals.specs.Decimals.{ten_digits}
use Rattle.canvas_decimals.proofs.ten_digits.Goals as goal

pub returns : goal.returns
unfolding ten_digits
returns c =
    rw (
      c.last_digit.ensures,
      c.last_digit-2.ensures,
      c.last_digit-3.ensures,
      c.last_digit-4.ensures,
      c.last_digit-5.ensures,
      c.last_digit-6.ensures,
      c.last_digit-7.ensures,
      c.last_digit-8.ensures,
      c.last_digit-9.ensures,
      c.last_digit-10.ensures,
    ) refl
