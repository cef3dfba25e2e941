use Rattle.std.proofs.Common.{◌≡◌, ℕ, List, ap, sym, refl, subst, ◌∙◌, map, take, Vec, Global}
use Rattle.std.proofs.lemmas.List.{take-map}
use mathlib.Core.Logic.{inl}
use Rattle.net_outbox.specs.Texts.{text_bytes}
use Rattle.canvas_model.specs.Messages.{Message}
use Rattle.canvas_nodes.specs.Answers.{AreMessageTexts}
use Rattle.canvas_turns.specs.Told.{version_told}
use Rattle.room_handler.specs.Told.{seen_told}
use Rattle.room_handler.specs.declared.told.Told.{Told}
use Rattle.app_server.specs.Live.{LiveValue}
use Rattle.room_handler.proofs.SeesOn.{seat_further}
use Rattle.app_server.proofs.Live.{fails_after, told_copy, told_each, told_nothing}
use Rattle.app_server.proofs.live_seat.LiveSeatLockHandler.push.Goals as goal

-- there is no place, or no room
pub returns-in_default-clause-tells : goal.returns-in_default-clause-tells
returns-in_default-clause-tells g c =
    let old : LiveValue = record { seat = c.self.inside.answerer; place = c.self.inside.place } in
    let nothing = c.nothing.ensures in
    rw (← c.self.view_is) (told_nothing g.N.RoomName.opening old old _ _ (inl refl, refl) refl (ap (map text_bytes) nothing.texts) nothing.versions)

pub returns-then-not-may_tell-clause-tells : goal.returns-then-not-may_tell-clause-tells
returns-then-not-may_tell-clause-tells g c =
    let old : LiveValue = record { seat = c.self.inside.answerer; place = c.self.inside.place } in
    let nothing = c.nothing-then-not-may_tell.ensures in
    rw (← c.self.view_is) (told_nothing g.N.RoomName.opening old old _ _ (inl refl, refl) refl (ap (map text_bytes) nothing.texts) nothing.versions)

-- the copy isn't there yet
pub returns-then-awaits_copy-clause-tells : goal.returns-then-awaits_copy-clause-tells
returns-then-awaits_copy-clause-tells g c =
    let o = g.N.RoomName.opening in
    let old : LiveValue = record { seat = c.self.inside.answerer; place = c.self.inside.place } in
    let new : LiveValue = record { seat = c.push_copy.new.self; place = c.self.inside.place } in
    let nothing = c.nothing-then-awaits_copy.ensures in
    rw (← c.self.view_is) (told_nothing o old new _ _ c.push_copy.ensures.sees refl (ap (map text_bytes) nothing.texts) nothing.versions)

-- a copy is told
pub returns-in-Some-2-clause-tells : goal.returns-in-Some-2-clause-tells
returns-in-Some-2-clause-tells g c =
    let o = g.N.RoomName.opening in
    let old : LiveValue = record { seat = c.self.inside.answerer; place = c.self.inside.place } in
    let new : LiveValue = record { seat = c.push_copy.new.self; place = c.self.inside.place } in
    let told = rw c.in-Some-2.is at c.in_ok-copy.ensures.copy in
    rw (← c.self.view_is)
    (told_copy o old new c.in-Some.place (text_bytes c.in-Some-2.copy) c.in-Some-2.version _ _ c.push_copy.ensures.sees refl c.in-Some.is told (ap (map text_bytes) c.in_ok-from_array.ensures.items) c.in_ok-from_array-2.ensures.items)

-- the texts, or the versions, have no room
pub returns-in_err-texts-clause-fails : goal.returns-in_err-texts-clause-fails
returns-in_err-texts-clause-fails g c =
    let o = g.N.RoomName.opening in
    let old : LiveValue = record { seat = c.self.inside.answerer; place = c.self.inside.place } in
    let new = c.told_after.new.self in
    let sees = seat_further o old.seat c.push_copy.new.self new.seat c.push_copy.ensures.sees c.told_after.ensures.sees in
    rw (← c.self.view_is) (fails_after o old new c.from_residual-in_err-texts.result sees c.told_after.ensures.place)

pub returns-in_err-texts-2-clause-fails : goal.returns-in_err-texts-2-clause-fails
returns-in_err-texts-2-clause-fails g c =
    let o = g.N.RoomName.opening in
    let old : LiveValue = record { seat = c.self.inside.answerer; place = c.self.inside.place } in
    let new = c.told_after.new.self in
    let sees = seat_further o old.seat c.push_copy.new.self new.seat c.push_copy.ensures.sees c.told_after.ensures.sees in
    rw (← c.self.view_is) (fails_after o old new c.from_residual-in_err-texts-2.result sees c.told_after.ensures.place)

pub returns-in_err-versions_of-clause-fails : goal.returns-in_err-versions_of-clause-fails
returns-in_err-versions_of-clause-fails g c =
    let o = g.N.RoomName.opening in
    let old : LiveValue = record { seat = c.self.inside.answerer; place = c.self.inside.place } in
    let new = c.told_after.new.self in
    let sees = seat_further o old.seat c.push_copy.new.self new.seat c.push_copy.ensures.sees c.told_after.ensures.sees in
    rw (← c.self.view_is) (fails_after o old new c.from_residual-in_err-versions_of.result sees c.told_after.ensures.place)

-- there is no room to send them
pub returns-then-not-takes-clause-tells : goal.returns-then-not-takes-clause-tells
returns-then-not-takes-clause-tells g c =
    let o = g.N.RoomName.opening in
    let old : LiveValue = record { seat = c.self.inside.answerer; place = c.self.inside.place } in
    let new = c.told_after.new.self in
    let sees = seat_further o old.seat c.push_copy.new.self new.seat c.push_copy.ensures.sees c.told_after.ensures.sees in
    let nothing = c.nothing-then-not-takes.ensures in
    rw (← c.self.view_is) (told_nothing o old new _ _ sees c.told_after.ensures.place (ap (map text_bytes) nothing.texts) nothing.versions)

-- the first of the news are told
pub returns-clause-tells : goal.returns-clause-tells
returns-clause-tells g c =
    let o = g.N.RoomName.opening in
    let old : LiveValue = record { seat = c.self.inside.answerer; place = c.self.inside.place } in
    let new = c.told_after.new.self in
    let sees = seat_further o old.seat c.push_copy.new.self new.seat c.push_copy.ensures.sees c.told_after.ensures.sees in
    let told = map seen_told c.in_ok-told.told.items in
    let n = c.pushed-count.result in
    let first : map seen_told c.truncate.new.self.items ≡ take n told = ap (map seen_told) c.truncate.ensures.items ∙ sym (take-map seen_told n c.in_ok-told.told.items) in
    let are = subst (λ (l : List Told). AreMessageTexts (map (λ (t : Vec ℕ Global). t.items) c.in_ok-texts.texts.items) (map seen_told l)) c.deref-2.ensures.value c.in_ok-texts.ensures in
    let sent = subst (λ (ts : List (List ℕ)). AreMessageTexts ts (map seen_told c.truncate.new.self.items)) (sym c.in_ok-texts-2.ensures) are in
    let cut = subst (λ (ms : List Message). AreMessageTexts (map text_bytes c.in_ok-texts-2.texts.items) ms) first sent in
    let each = c.in_ok-versions_of.ensures ∙ ap (λ (l : List Told). map version_told (map seen_told l)) c.deref-4.ensures.value ∙ ap (map version_told) first in
    rw (← c.self.view_is) (told_each o old new c.in-Some.place told n _ _ c.pushed-count.ensures sees c.told_after.ensures.place c.in-Some.is c.in_ok-told.ensures.tells cut each)
