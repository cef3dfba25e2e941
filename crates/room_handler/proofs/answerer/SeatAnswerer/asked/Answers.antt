use Rattle.std.proofs.Common.{ℕ, List, Vec, Global, map, subst}
use Rattle.std.proofs.lemmas.Result.{IfOk-weaker}
use Rattle.canvas_model.specs.Messages as messages
use Rattle.canvas_nodes.specs.Answers.{AreMessageTexts, GivesTexts}
use Rattle.room_handler.specs.declared.told.Told.{Told}
use Rattle.room_handler.specs.Seats.{SeatGives}
use Rattle.room_handler.specs.Told.{seen_told}
use Rattle.room_handler.proofs.Limits.{ask_answered}
use Rattle.room_handler.proofs.answerer.SeatAnswerer.asked.Goals as goal

pub returns-clause-gives : goal.returns-clause-gives
returns-clause-gives g c =
    let o = g.N.RoomName.opening in
    let items = λ (ts : Vec (Vec ℕ Global) Global). map (λ (t : Vec ℕ Global). t.items) ts.items in
    IfOk-weaker c.told_texts.result (λ ts. AreMessageTexts (items ts) (map seen_told c.deref-2.result.now))
    (λ ts. GivesTexts (SeatGives o) c.args.self.now (messages.Ask c.args.client c.args.version) (items ts) c.told.new.self)
    (λ ts are. ask_answered o c.args.self.now c.told.new.self c.args.client c.args.version (map seen_told c.in_ok-told.told.items) (items ts) c.told.ensures.sees c.in_ok-told.ensures.answers
    (subst (λ (ms : List Told). AreMessageTexts (items ts) (map seen_told ms)) c.deref-2.ensures.value are))
    c.told_texts.ensures
