use Rattle.canvas_pos.proofs.Order.{order-positions, before-smaller, apart-in_order, fits-inside, smaller-trans}
use Rattle.canvas_pos.proofs.byte_order.Goals as goal

pub returns : goal.returns
returns c = record {
  compare = order-positions;
  less = before-smaller;
  apart = apart-in_order;
  fits = fits-inside;
  transitive = smaller-trans;
}
