use Rattle.std.proofs.Common.{Vec, Global, map}
use Rattle.std.proofs.lemmas.Result.{IfOk-weaker}
use Rattle.net_outbox.specs.Texts.{text_bytes}
use Rattle.net_outbox.specs.declared.text.Text.{Text}
use Rattle.canvas_model.specs.Messages as messages
use Rattle.canvas_nodes.specs.Answers.{GivesTexts}
use Rattle.room_handler.specs.Seats.{SeatGives}
use Rattle.room_handler.specs.Table.{Gives}
use Rattle.room_handler.proofs.Limits.{ask_given}
use Rattle.room_handler.proofs.answerer.SeatAnswerer.copied.Goals as goal

pub returns-clause-gives : goal.returns-clause-gives
returns-clause-gives g c =
    let o = g.N.RoomName.opening in
    let limit = g.T.Terms.limit c.self.inside.terms in
    let old = c.self.inside.seat in
    let new = c.ask_texts.new.seat in
    let items = λ (ts : Vec Text Global). map text_bytes ts.items in
    rw (← c.self.view_is) (IfOk-weaker c.ask_texts.result (λ ts. GivesTexts (Gives o) old (messages.Ask c.args.client c.args.version) (items ts) new)
    (λ ts. GivesTexts (SeatGives o) (record { seen = old; limit = limit }) (messages.Ask c.args.client c.args.version) (items ts) (record { seen = new; limit = limit }))
    (λ ts h. ask_given o limit old new c.args.client c.args.version (items ts) h)
    c.ask_texts.ensures.gives)
