use Rattle.std.proofs.Common.{ℕ, List, Vec, Global, map, subst, sym}
use Rattle.net_outbox.specs.Texts.{text_bytes}
use Rattle.net_outbox.specs.declared.text.Text.{Text}
use Rattle.canvas_model.specs.Messages as messages
use Rattle.canvas_nodes.specs.Answers.{GivesTexts}
use Rattle.room_handler.specs.Seats.{SeatGives}
use Rattle.room_handler.proofs.Limits.{texts_elsewhere, texts_later}
use Rattle.room_handler.proofs.SeesOn.{seat_further}
use Rattle.room_handler.proofs.answerer.SeatAnswerer.ask_bytes.Goals as goal

-- texts of its own, after that look
pub returns-then-not-shares_copy-clause-gives : goal.returns-then-not-shares_copy-clause-gives
returns-then-not-shares_copy-clause-gives g c =
    let items = λ (ts : Vec (Vec ℕ Global) Global). map (λ (t : Vec ℕ Global). t.items) ts.items in
    texts_later items g.N.RoomName.opening c.args.self.now c.shares_copy.new.self c.asked.new.self c.args.client c.args.version c.shares_copy.ensures c.asked.result c.asked.ensures.gives

-- the bytes of a copy that many are sent, after that look
pub returns-clause-gives : goal.returns-clause-gives
returns-clause-gives g c =
    let o = g.N.RoomName.opening in
    let items = λ (ts : Vec (Vec ℕ Global) Global). map (λ (t : Vec ℕ Global). t.items) ts.items in
    let Given = λ (l : List (List ℕ)). GivesTexts (SeatGives o) c.shares_copy.new.self (messages.Ask c.args.client c.args.version) l c.copied.new.self in
    let given = subst (λ (ts : List Text). Given (map text_bytes ts)) (sym c.deref.ensures.value) c.in_ok-texts.ensures.gives in
    texts_later items o c.args.self.now c.shares_copy.new.self c.copied.new.self c.args.client c.args.version c.shares_copy.ensures c.bytes_of_each.result
    (texts_elsewhere items Given (map text_bytes c.deref.result.now) given c.bytes_of_each.result c.bytes_of_each.ensures)

-- what both looks have seen
pub returns-then-not-shares_copy-clause-sees : goal.returns-then-not-shares_copy-clause-sees
returns-then-not-shares_copy-clause-sees g c = seat_further g.N.RoomName.opening c.args.self.now c.shares_copy.new.self c.asked.new.self c.shares_copy.ensures c.asked.ensures.sees

pub returns-in_err-texts-clause-sees : goal.returns-in_err-texts-clause-sees
returns-in_err-texts-clause-sees g c = seat_further g.N.RoomName.opening c.args.self.now c.shares_copy.new.self c.copied.new.self c.shares_copy.ensures c.copied.ensures.sees

pub returns-clause-sees : goal.returns-clause-sees
returns-clause-sees g c = seat_further g.N.RoomName.opening c.args.self.now c.shares_copy.new.self c.copied.new.self c.shares_copy.ensures c.copied.ensures.sees
