use Rattle.std.proofs.Common.{◌≡◌, ℕ, List, Vec, Global, map, subst, sym}
use Rattle.std.proofs.lemmas.Result.{IfOk-weaker}
use Rattle.net_outbox.specs.Texts.{text_bytes}
use Rattle.net_outbox.specs.declared.text.Text.{Text}
use Rattle.canvas_model.specs.Messages as messages
use Rattle.canvas_nodes.specs.Answers.{AreMessageTexts, GivesTexts}
use Rattle.room_handler.specs.declared.told.Told.{Told}
use Rattle.room_handler.specs.Table.{Gives}
use Rattle.room_handler.specs.Told.{seen_told}
use Rattle.room_handler.proofs.Shared.{told_anew}
use Rattle.room_handler.proofs.sharing.texts_anew.Goals as goal

pub returns-clause-gives : goal.returns-clause-gives
returns-clause-gives g c =
    let o = g.N.RoomName.opening in
    let old = c.args.seat.now in
    let new = c.ask_told.new.seat in
    let bytes = map (λ (t : Vec ℕ Global). t.items) c.in_ok-texts.texts.items in
    let are = subst (λ (ms : List Told). AreMessageTexts bytes (map seen_told ms)) c.deref.ensures.value c.in_ok-texts.ensures in
    let gives = told_anew o c.args.client c.args.version bytes old new (map seen_told c.in_ok-told.told.items) c.ask_told.ensures.sees c.in_ok-told.ensures.answers are in
    IfOk-weaker c.own_texts.result (λ (ts : Vec Text Global). map text_bytes ts.items ≡ bytes)
    (λ (ts : Vec Text Global). GivesTexts (Gives o) old (messages.Ask c.args.client c.args.version) (map text_bytes ts.items) new)
    (λ ts same. subst (λ (l : List (List ℕ)). GivesTexts (Gives o) old (messages.Ask c.args.client c.args.version) l new) (sym same) gives)
    c.own_texts.ensures
