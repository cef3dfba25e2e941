use Rattle.std.proofs.Common.{List, map, subst}
use Rattle.std.proofs.lemmas.Result.{IfErr-weaker, on_ok_weaker}
use Rattle.tungstenite.specs.declared.error.Error.{Error}
use Rattle.canvas_model.specs.Messages.{Message}
use Rattle.net_outbox.specs.Texts.{text_bytes}
use Rattle.net_outbox.specs.declared.text.Text.{Text}
use Rattle.canvas_sockets.specs.Served.{StopsWriting, WritesEach}
use Rattle.canvas_sockets.specs.Turned.{StopsPuttingAnswer}
use Rattle.canvas_sockets.proofs.turning.put_answer.Goals as goal

pub returns-in-Ok-clause-puts : goal.returns-in-Ok-clause-puts
returns-in-Ok-clause-puts g c =
    let replies = c.in-Ok.ensures in
    let texts = map text_bytes c.in-Ok.texts.items in
    on_ok_weaker c.put_each.result
    (λ h. (replies.0, replies.1, (texts, replies.2, subst (λ (vs : List Text). WritesEach g.O.Write.contents c.args.writer.now (map text_bytes vs) c.put_each.new.socket) c.deref.ensures.value h)))
    c.put_each.ensures.writes

pub returns-in-Ok-clause-stops : goal.returns-in-Ok-clause-stops
returns-in-Ok-clause-stops g c =
    let replies = c.in-Ok.ensures in
    let texts = map text_bytes c.in-Ok.texts.items in
    IfErr-weaker c.put_each.result (λ (e : Error). StopsWriting g.O.Write.contents c.args.writer.now (map text_bytes c.deref.result.now) e c.put_each.new.socket)
    (λ (e : Error). (answer : List Message) × g.A.Replier.replies c.args.replier.now c.args.bytes.now answer c.reply.new.self × StopsPuttingAnswer g.O.Write.contents c.args.writer.now answer e c.put_each.new.socket)
    (λ e h. (replies.0, replies.1, (texts, replies.2, subst (λ (vs : List Text). StopsWriting g.O.Write.contents c.args.writer.now (map text_bytes vs) e c.put_each.new.socket) c.deref.ensures.value h)))
    c.put_each.ensures.stops
