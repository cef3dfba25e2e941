use Rattle.canvas_pos.proofs.Order.{digits_decide}
use Rattle.canvas_pos.proofs.digit_order.Goals as goal

pub returns : goal.returns
returns c = digits_decide 9
