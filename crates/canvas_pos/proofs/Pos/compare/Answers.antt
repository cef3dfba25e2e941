use Rattle.std.proofs.Common.{◌≡◌, rules}
use Rattle.std.specs.Ordering.{nat_cmp}
use Rattle.std.specs.Cmp.Lexicographic.{slice_cmp}
use Rattle.canvas_pos.proofs.Order.{order-positions}
use Rattle.canvas_pos.proofs.Pos.compare.Goals as goal

pub returns-clause-order : goal.returns-clause-order
returns-clause-order g c =
    let value : c.cmp.result ≡ slice_cmp nat_cmp c.args.self.now c.args.other.now = search rules in
    rw value (order-positions c.args.self.now c.args.other.now c.bytes.ensures.position c.bytes-2.ensures.position)
