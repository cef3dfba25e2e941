use Rattle.std.proofs.Common.{◌≡◌, ℕ, List, [], ◌∷◌, Vec, Global, map}
use Rattle.std.proofs.lemmas.Result.{IfOk-weaker}
use Rattle.net_outbox.specs.Texts.{text_bytes}
use Rattle.net_outbox.specs.declared.text.Text.{Text}
use Rattle.canvas_model.specs.Messages as messages
use Rattle.canvas_nodes.specs.Answers.{GivesTexts}
use Rattle.canvas_wire.specs.Text.{EncodesMessage}
use Rattle.room_handler.specs.Table.{Gives}
use Rattle.room_handler.proofs.Shared.{copy_given, told_later}
use Rattle.room_handler.proofs.sharing.ask_texts.Goals as goal

-- a copy, and an Idle
pub returns-in-Some-clause-gives : goal.returns-in-Some-clause-gives
returns-in-Some-clause-gives g c =
    let o = g.N.RoomName.opening in
    let told = rw c.in-Some.is at c.in_ok-copy.ensures.copy in
    IfOk-weaker c.with_idle.result (λ (ts : Vec Text Global). (idle : List ℕ) × EncodesMessage idle messages.Idle × (map text_bytes ts.items ≡ text_bytes c.in-Some.copy ∷ idle ∷ []))
    (λ (ts : Vec Text Global). GivesTexts (Gives o) c.args.seat.now (messages.Ask c.args.client c.args.version) (map text_bytes ts.items) c.copy_for.new.seat)
    (λ ts h. copy_given o c.args.client c.args.version (map text_bytes ts.items) c.args.seat.now c.copy_for.new.seat (text_bytes c.in-Some.copy) h.0 c.copy_for.ensures.sees told.0 h.1 h.2)
    c.with_idle.ensures

-- what is told anew, after that look
pub returns-in-None-clause-gives : goal.returns-in-None-clause-gives
returns-in-None-clause-gives g c =
    let o = g.N.RoomName.opening in
    let mid = c.copy_for.new.seat in
    let new = c.texts_anew.new.seat in
    IfOk-weaker c.texts_anew.result (λ (ts : Vec Text Global). GivesTexts (Gives o) mid (messages.Ask c.args.client c.args.version) (map text_bytes ts.items) new)
    (λ (ts : Vec Text Global). GivesTexts (Gives o) c.args.seat.now (messages.Ask c.args.client c.args.version) (map text_bytes ts.items) new)
    (λ ts h. told_later o c.args.client c.args.version (map text_bytes ts.items) c.args.seat.now mid new c.copy_for.ensures.sees h)
    c.texts_anew.ensures.gives
