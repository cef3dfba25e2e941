use Rattle.std.proofs.lemmas.Result.{on_ok_weaker, IfErr-weaker}
use mathlib.Core.Logic.{inr}
use Rattle.canvas_nodes.proofs.rounds.exchange.Goals as goal

pub returns-clause-hears : goal.returns-clause-hears
returns-clause-hears g c = on_ok_weaker c.catch_up.result (λ h. (c.send_edits.new.client, c.send_edits.new.link, c.in_ok-send_edits.ensures.hears, h)) c.catch_up.ensures.hears

pub returns-clause-breaks : goal.returns-clause-breaks
returns-clause-breaks g c = IfErr-weaker c.catch_up.result _ _ (λ e h. inr (c.send_edits.new.client, c.send_edits.new.link, c.in_ok-send_edits.ensures.hears, h)) c.catch_up.ensures.breaks
