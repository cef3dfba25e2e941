use Rattle.std.proofs.lemmas.Result.{on_ok_weaker}
use Rattle.canvas_threads.proofs.AtSeats.{catches_up, keeps_following, sees_on}
use Rattle.canvas_threads.proofs.seats.exchange_at.Goals as goal

pub returns-clause-follows : goal.returns-clause-follows
returns-clause-follows g c = keeps_following c.every_log.ensures.sound c.every_view.ensures.taken c.every_told_entry.ensures g.N.RoomName.opening c.args.client.now c.args.link.now c.exchange.new.client c.exchange.new.link c.exchange.result c.exchange.ensures.hears c.exchange.ensures.breaks

pub returns-clause-up_to_date : goal.returns-clause-up_to_date
returns-clause-up_to_date g c = on_ok_weaker c.exchange.result (catches_up c.every_log.ensures.sound c.every_view.ensures.taken c.every_told_entry.ensures g.N.RoomName.opening c.args.client.now c.args.link.now c.exchange.new.client c.exchange.new.link) c.exchange.ensures.hears

pub returns-clause-sees : goal.returns-clause-sees
returns-clause-sees g c = sees_on g.N.RoomName.opening c.every_exchange.ensures c.args.client.now c.args.link.now c.exchange.new.client c.exchange.new.link c.exchange.result c.exchange.ensures.hears c.exchange.ensures.breaks
