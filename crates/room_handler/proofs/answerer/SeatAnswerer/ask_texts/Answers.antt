use Rattle.std.proofs.Common.{ℕ, List, Vec, Global, map}
use Rattle.net_outbox.specs.Texts.{text_bytes}
use Rattle.net_outbox.specs.declared.text.Text.{Text}
use Rattle.canvas_model.specs.Messages as messages
use Rattle.canvas_nodes.specs.Answers.{GivesTexts}
use Rattle.room_handler.specs.Seats.{SeatGives}
use Rattle.room_handler.proofs.Limits.{texts_elsewhere, texts_later}
use Rattle.room_handler.proofs.SeesOn.{seat_further}
use Rattle.room_handler.proofs.answerer.SeatAnswerer.ask_texts.Goals as goal

-- a copy that many are sent, after that look
pub returns-then-shares_copy-clause-gives : goal.returns-then-shares_copy-clause-gives
returns-then-shares_copy-clause-gives g c =
    texts_later (λ (ts : Vec Text Global). map text_bytes ts.items) g.N.RoomName.opening c.args.self.now c.shares_copy.new.self c.copied.new.self c.args.client c.args.version c.shares_copy.ensures c.copied.result
    c.copied.ensures.gives

-- texts of its own, after that look
pub returns-clause-gives : goal.returns-clause-gives
returns-clause-gives g c =
    let o = g.N.RoomName.opening in
    let bytes = map (λ (t : Vec ℕ Global). t.items) c.in_ok-texts.texts.items in
    texts_later (λ (ts : Vec Text Global). map text_bytes ts.items) o c.args.self.now c.shares_copy.new.self c.asked.new.self c.args.client c.args.version c.shares_copy.ensures c.own_texts.result
    (texts_elsewhere (λ (ts : Vec Text Global). map text_bytes ts.items) (λ (l : List (List ℕ)). GivesTexts (SeatGives o) c.shares_copy.new.self (messages.Ask c.args.client c.args.version) l c.asked.new.self) bytes
    c.in_ok-texts.ensures.gives c.own_texts.result c.own_texts.ensures)

-- what both looks have seen
pub returns-then-shares_copy-clause-sees : goal.returns-then-shares_copy-clause-sees
returns-then-shares_copy-clause-sees g c = seat_further g.N.RoomName.opening c.args.self.now c.shares_copy.new.self c.copied.new.self c.shares_copy.ensures c.copied.ensures.sees

pub returns-in_err-texts-clause-sees : goal.returns-in_err-texts-clause-sees
returns-in_err-texts-clause-sees g c = seat_further g.N.RoomName.opening c.args.self.now c.shares_copy.new.self c.asked.new.self c.shares_copy.ensures c.asked.ensures.sees

pub returns-clause-sees : goal.returns-clause-sees
returns-clause-sees g c = seat_further g.N.RoomName.opening c.args.self.now c.shares_copy.new.self c.asked.new.self c.shares_copy.ensures c.asked.ensures.sees
