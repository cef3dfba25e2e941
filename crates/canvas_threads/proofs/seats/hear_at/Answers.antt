use Rattle.std.proofs.lemmas.Result.{on_ok_weaker}
use Rattle.canvas_threads.proofs.HeardPushes.{hearing_sees, keeps_hearing, rests_at}
use Rattle.canvas_threads.proofs.seats.hear_at.Goals as goal

pub returns-clause-follows : goal.returns-clause-follows
returns-clause-follows g c = keeps_hearing c.every_log.ensures.sound c.every_view.ensures.taken c.every_told_entry.ensures g.N.RoomName.opening c.args.client.now c.args.seat.now c.hear_all.new.client c.hear_all.new.seat c.hear_all.result c.hear_all.ensures.hears c.hear_all.ensures.breaks

pub returns-clause-rests : goal.returns-clause-rests
returns-clause-rests g c = on_ok_weaker c.hear_all.result (rests_at c.every_log.ensures.sound c.every_view.ensures.taken c.every_told_entry.ensures g.N.RoomName.opening c.args.client.now c.args.seat.now c.hear_all.new.client c.hear_all.new.seat) c.hear_all.ensures.hears

pub returns-clause-sees : goal.returns-clause-sees
returns-clause-sees g c = hearing_sees g.N.RoomName.opening c.args.client.now c.args.seat.now c.hear_all.new.client c.hear_all.new.seat c.hear_all.result c.hear_all.ensures.hears c.hear_all.ensures.breaks
