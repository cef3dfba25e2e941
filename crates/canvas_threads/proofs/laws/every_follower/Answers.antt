use Rattle.canvas_threads.proofs.Heard.{heard_one}
use Rattle.canvas_threads.proofs.Making.{follows_edited, follows_placed}
use Rattle.canvas_threads.proofs.Crashes.{new_room_opens}
use Rattle.canvas_threads.proofs.Headlines.{agree, headline}
use Rattle.canvas_threads.proofs.laws.every_follower.Goals as goal

pub returns-clause-truths : goal.returns-clause-truths
returns-clause-truths c = λ log legal id edits all old f m is new h. heard_one c.every_log.ensures.sound c.every_view.ensures.taken c.every_told_entry.ensures log legal id edits all old f m is new h

pub returns-clause-edits : goal.returns-clause-edits
returns-clause-edits c = λ log legal id edits old f request change makes. follows_edited c.every_log.ensures.sound log legal id edits old f change c.every_view.ensures.edited request makes

pub returns-clause-placed : goal.returns-clause-placed
returns-clause-placed c = λ log legal id edits old f request change makes. follows_placed c.every_log.ensures.sound log legal id edits old f change c.every_placed_edit.ensures request makes

pub returns-clause-shows : goal.returns-clause-shows
returns-clause-shows c = headline

pub returns-clause-agree : goal.returns-clause-agree
returns-clause-agree c = agree

pub returns-clause-opens : goal.returns-clause-opens
returns-clause-opens c = new_room_opens
