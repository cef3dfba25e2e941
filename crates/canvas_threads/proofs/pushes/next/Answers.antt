use Rattle.std.proofs.Common.{◌≡◌, Some, None, arith}
use mathlib.Core.Logic.{inl, inr}
use Rattle.canvas_board.specs.Marks.{board}
use Rattle.room_handler.specs.Table.{IsPush}
use Rattle.canvas_threads.proofs.HeardPushes.{stranger_next}
use Rattle.canvas_threads.proofs.pushes.next.Goals as goal

pub returns-in-None-clause-refuses : goal.returns-in-None-clause-refuses
returns-in-None-clause-refuses g c =
    let o = g.N.RoomName.opening in
    let old = c.args.client.now in
    let version = c.in_ok-published.ensures.version in
    let holds : old.id ≡ Some c.in-Some.id = cc in
    let told = rw c.in-None.is at c.in_ok-told.ensures.tells in
    let none : IsPush (board o c.push.new.seat) c.in-Some.id old.version None = elim told [ inl low ↦ inl (omega (arith, low)) | inr stranger ↦ inr stranger ] in
    stranger_next o old c.in-Some.id c.args.seat.now c.published.new.seat c.push.new.seat holds c.published.ensures.sees c.push.ensures.sees (omega (arith, version)) none
