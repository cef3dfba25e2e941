use Rattle.std.proofs.Common.{sym, ◌∙◌, arith}
use Rattle.canvas_decimals.proofs.Decimals.{ten_one}
use Rattle.etcd_gateway.proofs.keys.segment_of.Goals as goal

pub returns-then-number-gt4294967295-clause-none : goal.returns-then-number-gt4294967295-clause-none
returns-then-number-gt4294967295-clause-none c = λ number less e.
    (let same = ten_one c.in_ok-number.number number c.in_ok-number.ensures.small (omega arith) (sym c.in_ok-number.ensures.some ∙ e) in
    omega (arith, same, c.if-number-gt4294967295.true))
