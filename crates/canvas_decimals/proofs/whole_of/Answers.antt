use Rattle.std.proofs.Common.{sym, ◌∙◌}
use Rattle.canvas_decimals.proofs.Wholes.{not_whole, whole_is}
use Rattle.canvas_decimals.proofs.whole_of.Goals as goal

pub returns-then-are_digits : goal.returns-then-are_digits
returns-then-are_digits c =
    whole_is c.args.text.now c.value_of.result (sym c.are_digits.ensures ∙ c.if-are_digits.true) c.value_of.ensures.some c.value_of.ensures.small c.value_of.ensures.none

pub returns-else-are_digits : goal.returns-else-are_digits
returns-else-are_digits c = not_whole c.args.text.now (sym c.are_digits.ensures ∙ c.if-are_digits.false)
