use Rattle.std.proofs.Common.{Vec, Global, map}
use Rattle.std.proofs.lemmas.Result.{IfOk-weaker}
use Rattle.net_outbox.specs.Texts.{text_bytes}
use Rattle.net_outbox.specs.declared.text.Text.{Text}
use Rattle.canvas_model.specs.Messages as messages
use Rattle.canvas_nodes.specs.Answers.{GivesTexts}
use Rattle.room_handler.specs.Table.{Gives}
use Rattle.room_handler.proofs.Shared.{told_later}
use Rattle.app_server.proofs.copies.Copies.texts.Goals as goal

-- what is told anew, after the look at the copy that is held
pub returns-clause-gives : goal.returns-clause-gives
returns-clause-gives g c =
    let o = g.N.RoomName.opening in
    let mid = c.held_texts.new.seat in
    let new = c.ask_texts-texts.new.seat in
    IfOk-weaker c.ask_texts-texts.result (λ (ts : Vec Text Global). GivesTexts (Gives o) mid (messages.Ask c.args.client c.args.version) (map text_bytes ts.items) new)
    (λ (ts : Vec Text Global). GivesTexts (Gives o) c.args.seat.now (messages.Ask c.args.client c.args.version) (map text_bytes ts.items) new)
    (λ ts h. told_later o c.args.client c.args.version (map text_bytes ts.items) c.args.seat.now mid new c.held_texts.ensures.sees h)
    c.ask_texts-texts.ensures.gives
