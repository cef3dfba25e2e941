use Rattle.canvas_turns.proofs.Stepping.{behind_pause}
use Rattle.canvas_turns.proofs.sides.next_reader.Goals as goal

pub returns : goal.returns
returns g c =
    behind_pause c.args.reader c.get_ref.result.now c.into_inner-inlet.result _ c.socket_over.result c.has_paused.result c.get_ref.ensures c.has_paused.ensures.value c.if-not-has_paused.false c.into_inner-inlet.ensures
    c.go_on.ensures.stream c.go_on.ensures.frames c.socket_over.ensures
