use Rattle.std.specs.Option.{option_copied}
use Rattle.canvas_judge.proofs.Room.{next_apart, middle_position}
use Rattle.canvas_judge.proofs.verdict.position_for.Goals as goal

pub between-requires : goal.between-requires
between-requires g c = next_apart c.args.doc.now c.args.id c.place.inside.parent c.place.inside.pos (option_copied c.next_position-next.result) c.next_position-next.ensures

pub returns : goal.returns
returns g c =
    rw (← c.place.view_is)
    (middle_position c.args.doc.now c.args.id _ (option_copied c.next_position-next.result) (c.taken.ensures.0 c.if-not-taken.false) c.next_position-next.ensures c.between.result
    c.between.ensures.middle c.between.ensures.fits c.between.ensures.none)
