use Rattle.std.proofs.Common.{ℕ, List, Vec, Global, map}
use Rattle.std.proofs.lemmas.Result.{IfErr-weaker, on_ok_weaker}
use Rattle.tungstenite.specs.declared.error.Error.{Error}
use Rattle.canvas_model.specs.Messages.{Message}
use Rattle.canvas_nodes.specs.Answers.{Replies}
use Rattle.canvas_sockets.specs.Served.{StopsAnswer, StopsSending}
use Rattle.canvas_sockets.proofs.serving.answer_bytes.Goals as goal

pub returns-in-Ok-clause-sends : goal.returns-in-Ok-clause-sends
returns-in-Ok-clause-sends g c =
    let replies = c.in-Ok.ensures in
    on_ok_weaker c.send_each.result (λ h. (replies.0, replies.1, (map (λ (v : Vec ℕ Global). v.items) c.in-Ok.texts.items, replies.2, h))) c.send_each.ensures.sends

pub returns-in-Ok-clause-stops : goal.returns-in-Ok-clause-stops
returns-in-Ok-clause-stops g c =
    let replies = c.in-Ok.ensures in
    IfErr-weaker c.send_each.result (λ (e : Error). StopsSending g.S.Write.contents c.args.socket.now (map (λ (v : Vec ℕ Global). v.items) c.in-Ok.texts.items) e c.send_each.new.socket)
    (λ (e : Error). (answer : List Message) × Replies g.A.Answerer.gives c.args.answerer.now c.args.bytes.now answer c.answered.new.answerer × StopsAnswer g.S.Write.contents c.args.socket.now answer e c.send_each.new.socket)
    (λ e h. (replies.0, replies.1, (map (λ (v : Vec ℕ Global). v.items) c.in-Ok.texts.items, replies.2, h)))
    c.send_each.ensures.stops
