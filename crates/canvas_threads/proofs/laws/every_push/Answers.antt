use Rattle.canvas_threads.proofs.HeardPushes.{each_push_is_followed, each_push_leads_on, push_is_news}
use Rattle.canvas_threads.proofs.laws.every_push.Goals as goal

pub returns-clause-followed : goal.returns-clause-followed
returns-clause-followed g c = each_push_is_followed c.every_log.ensures.sound c.every_view.ensures.taken c.every_told_entry.ensures g.N.RoomName.opening

pub returns-clause-news : goal.returns-clause-news
returns-clause-news g c = push_is_news g.N.RoomName.opening

pub returns-clause-leads_on : goal.returns-clause-leads_on
returns-clause-leads_on g c = each_push_leads_on c.every_log.ensures.sound c.every_view.ensures.taken c.every_told_entry.ensures g.N.RoomName.opening
