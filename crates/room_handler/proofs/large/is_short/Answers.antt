use Rattle.std.proofs.Common.{◌+◌, ◌*◌, arith}
use Rattle.std.proofs.lemmas.Bool.{leb-true}
use Rattle.room_handler.proofs.Lengths.{length-edit}
use Rattle.room_handler.proofs.large.is_short.Goals as goal

pub returns-in-Some : goal.returns-in-Some
returns-in-Some c =
    let n = c.in-Some.len in
    let short = length-edit c.args.client c.args.seq c.args.change.now n (omega (arith, c.ranges.client.fits)) (omega (arith, c.ranges.seq.fits)) c.every_part.ensures c.in-Some.ensures in
    λ holds. omega (arith, short, leb-true (n * 6 + 1028) c.args.limit holds)
