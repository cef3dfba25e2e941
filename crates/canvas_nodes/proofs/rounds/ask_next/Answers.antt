use Rattle.std.proofs.Common.{subst}
use Rattle.std.proofs.lemmas.Result.{on_ok_weaker, IfErr-weaker}
use Rattle.canvas_model.specs.Messages.{Message}
use Rattle.canvas_judge.specs.Seen.{seen_message}
use Rattle.canvas_nodes.specs.Hears.{Hears, Breaks, BreaksAtNews}
use Rattle.canvas_nodes.proofs.Hearing.{asked_news}
use Rattle.canvas_nodes.proofs.rounds.ask_next.Goals as goal

pub returns-in-Some-clause-hears : goal.returns-in-Some-clause-hears
returns-in-Some-clause-hears g c =
    let q = asked_news seen_message c.args.client.now.id c.args.client.now.version c.ask_message.result c.in-Some.message c.in-Some.is c.ask_message.ensures in
    on_ok_weaker c.ask.result (λ h. (q.0, q.1, subst (λ (m : Message). Hears g.L.Link.gives g.L.Link.fails m c.args.client.now c.args.link.now c.ask.new.client c.ask.new.link) q.2 h)) c.ask.ensures.hears

pub returns-in-Some-clause-breaks : goal.returns-in-Some-clause-breaks
returns-in-Some-clause-breaks g c =
    let q = asked_news seen_message c.args.client.now.id c.args.client.now.version c.ask_message.result c.in-Some.message c.in-Some.is c.ask_message.ensures in
    IfErr-weaker c.ask.result (λ e. Breaks g.L.Link.gives g.L.Link.fails (seen_message c.in-Some.message) e c.args.client.now c.args.link.now c.ask.new.client c.ask.new.link)
    (λ e. BreaksAtNews g.L.Link.gives g.L.Link.fails e c.args.client.now c.args.link.now c.ask.new.client c.ask.new.link)
    (λ e h. (q.0, q.1, subst (λ (m : Message). Breaks g.L.Link.gives g.L.Link.fails m e c.args.client.now c.args.link.now c.ask.new.client c.ask.new.link) q.2 h)) c.ask.ensures.breaks
