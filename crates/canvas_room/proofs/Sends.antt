-- Which of a room's types may be sent to a thread or shared with one, one layer at a time: `search` alone gives up at the depth of them all.
use denote.RattleType.{RattleType}
use denote.Struct.Declared.{shape}
use denote.Param.Send.{IsSend, IsSync, sendable, view_send, view_sync, recorded_send, struct_send}
use denote.Param.SendFields.{as_row_send, declared_send, declared_sync, variants_send}
use Rattle.core.proofs.option.Option.TheSendSync as option
use Rattle.core.proofs.rt.Memory.TheSendSync as memory
use Rattle.std.proofs.Crossing.{crosses, frees, Arc-send, Arc-sync}
use Rattle.std.proofs.alloc.Global.TheSendSync as heap
use Rattle.std.specs.contracts.alloc.Global as Heap
use Rattle.std.specs.contracts.impls.GlobalAllocator.TheImpl.{ghosts}
use Rattle.canvas_model.proofs.Counts.TheSendSync as counts
use Rattle.canvas_model.proofs.Kind.TheSendSync as kind
use Rattle.canvas_model.proofs.ObjId.TheSendSync as id
use Rattle.canvas_model.proofs.Reason.TheSendSync as reason
use Rattle.canvas_pos.proofs.Pos.TheSendSync as pos
use Rattle.canvas_value.proofs.Value.TheLaws.TheKnot as value
use Rattle.canvas_value.proofs.names.Name.TheSendSync as name
use Rattle.canvas_doc.proofs.place.Place.TheSendSync as place
use Rattle.canvas_judge.proofs.outcome.Outcome.TheSendSync as outcome
use Rattle.canvas_judge.specs.contracts.state.State as State
use Rattle.canvas_judge.specs.contracts.entry.Entry as Entry
use Rattle.canvas_server.specs.contracts.request.Request as Request
use Rattle.canvas_server.specs.contracts.server.ServerWith as Server
use Rattle.canvas_forms.specs.contracts.shared_entry.SharedEntry as SharedEntry
use Rattle.canvas_forms.specs.contracts.shared_entry.SharedEntry.TheInside as in_entry
use Rattle.canvas_forms.specs.contracts.shared_entry.Spelled as Spelled
use Rattle.canvas_board.specs.declared.history.RoomName.{Ghosts}
use Rattle.canvas_board.specs.contracts.mark.Mark as Mark
use Rattle.canvas_board.specs.contracts.page.Page as Page
use Rattle.canvas_board.specs.contracts.page.Shared as Shared
use Rattle.canvas_board.specs.contracts.page.SharedEntryFormGlobal.TheImpl as form
use Rattle.canvas_board.specs.contracts.board.Board as Board
use Rattle.canvas_board.specs.contracts.board.Step as Step
use Rattle.canvas_board.specs.contracts.reader.Reader as Reader
use Rattle.canvas_board.specs.contracts.receipt.Receipt as Receipt
use Rattle.canvas_board.specs.contracts.reader.Reader.TheInside as in_reader
use Rattle.canvas_board.specs.contracts.publisher.Publisher as Publisher
use Rattle.canvas_board.specs.contracts.publisher.Publisher.TheInside as in_publisher
use Rattle.canvas_board.specs.contracts.board.BoardAbsorbStep.TheImpl as absorbs
use Rattle.canvas_board.specs.contracts.rule.Published as Published
use Rattle.canvas_board.specs.contracts.rule.PublishedProtocolBoardLinkedListMark.TheImpl as rule
use Rattle.canvas_board.specs.declared.board.Board.{Board as BoardOf}
use Rattle.canvas_board.specs.declared.board.Step.{Step as StepOf}
use Rattle.canvas_board.specs.declared.mark.Mark.{Mark as MarkOf}
use Rattle.canvas_board.specs.declared.rule.Published.{Published as PublishedOf}
use Rattle.canvas_board.proofs.history.Book.TheSendSync as book
use Rattle.canvas_board.proofs.history.Front.TheSendSync as front
use Rattle.canvas_desk.proofs.faults.SubmitError.TheSendSync as submit_error
use Rattle.canvas_desk.specs.contracts.faults.SubmitError as SubmitError
use Rattle.canvas_desk.specs.contracts.desk.Desk as Desk
use Rattle.canvas_journal.specs.declared.keeper.Keeper as keeper
use Rattle.canvas_desk.specs.contracts.desk.Desk.TheInside as in_desk
use Rattle.canvas_room.specs.contracts.asking.SeatAnswer as SeatAnswer
use Rattle.canvas_room.specs.contracts.mailbox.Run as Run
use Rattle.canvas_room.specs.contracts.mailbox.Ticket as Ticket
use Rattle.canvas_room.specs.contracts.mailbox.Mailbox as Mailbox
use Rattle.canvas_room.specs.contracts.mailbox.Reply as Reply
use Rattle.canvas_room.specs.contracts.mailbox.Reply.TheInside as in_reply
use Rattle.canvas_room.specs.contracts.mailbox.Content as Content
use Rattle.canvas_room.specs.contracts.mailbox.Slot as Slot
use Rattle.canvas_room.specs.contracts.seat_slot.SeatSlot as SeatSlot
use Rattle.canvas_room.specs.contracts.seat.Seat as Seat
use Rattle.canvas_room.specs.contracts.seat.Seat.TheInside as in_seat
use Rattle.crossbeam_utils.specs.declared.rule.Protocol as protocol
use Rattle.left_right.specs.declared.Absorb as absorb
use Rattle.left_right.proofs.reader.Reader.TheSendSync as end
use Rattle.left_right.proofs.writer.Writer.TheSendSync as writer
use Rattle.std.specs.contracts.collections.LinkedList as Linked
use Rattle.std.specs.contracts.sync.Arc as Arc
use Rattle.core.specs.contracts.result.Result as Result
use Rattle.core.specs.contracts.sync.Mutex as Mutex
use Rattle.std.specs.declared.alloc.Global.{Global}
use Rattle.std.specs.declared.collections.LinkedList.{LinkedList}
use mir.Syntax.{given}
use denote.Array.{Array}
use mathlib.Core.List.{List}

pub ruleset leaves = (
  memory.the_send,
  memory.the_sync,
  memory.the_field_send,
  memory.the_field_sync,
  heap.the_send,
  heap.the_sync,
  heap.the_field_send,
  heap.the_field_sync,
  option.the_send,
  option.the_sync,
  option.the_field_send,
  option.the_field_sync,
  id.the_send,
  id.the_sync,
  id.the_field_send,
  id.the_field_sync,
  kind.the_send,
  kind.the_sync,
  kind.the_field_send,
  kind.the_field_sync,
  counts.the_send,
  counts.the_sync,
  counts.the_field_send,
  counts.the_field_sync,
  reason.the_send,
  reason.the_sync,
  reason.the_field_send,
  reason.the_field_sync,
  pos.the_send,
  pos.the_sync,
  name.the_send,
  name.the_sync,
  place.the_send,
  place.the_sync,
  outcome.the_send,
  outcome.the_sync,
  value.send-Value,
  value.sync-Value,
)

pub State-send : IsSend (State.the_row Heap.the_row ghosts)
State-send = search (leaves, sendable, crosses) depth 40 fits 4000

pub State-sync : IsSync (State.the_row Heap.the_row ghosts)
State-sync = search (leaves, sendable, crosses) depth 40 fits 4000

pub Entry-send : IsSend (Entry.the_row Heap.the_row ghosts)
Entry-send = search (leaves, sendable, crosses) depth 40 fits 4000

pub Entry-sync : IsSync (Entry.the_row Heap.the_row ghosts)
Entry-sync = search (leaves, sendable, crosses) depth 40 fits 4000

-- an entry with its text
pub Spelled-send : IsSend Spelled.the_row
Spelled-send = search (Entry-send, sendable, crosses) depth 40 fits 4000

pub Spelled-sync : IsSync Spelled.the_row
Spelled-sync = search (Entry-sync, sendable, crosses) depth 40 fits 4000

pub SharedEntry-send : IsSend SharedEntry.the_row
SharedEntry-send = view_send in_entry.the_row _ _ _ _ (declared_send in_entry.the_type (Arc-send _ Spelled-send Spelled-sync, tt))

pub SharedEntry-sync : IsSync SharedEntry.the_row
SharedEntry-sync = view_sync in_entry.the_row _ _ _ _ (declared_sync in_entry.the_type (Arc-sync _ Spelled-send Spelled-sync, tt))

pub Server-send : IsSend (Server.the_row Shared.the_row Heap.the_row SharedEntry.the_row form.ghosts ghosts)
Server-send = search (State-send, SharedEntry-send, sendable, crosses) depth 40 fits 4000

pub Server-sync : IsSync (Server.the_row Shared.the_row Heap.the_row SharedEntry.the_row form.ghosts ghosts)
Server-sync = search (State-sync, SharedEntry-sync, sendable, crosses) depth 40 fits 4000

pub Page-send : IsSend Page.the_row
Page-send = search (Server-send, sendable, crosses) depth 40 fits 4000

pub Page-sync : IsSync Page.the_row
Page-sync = search (Server-sync, sendable, crosses) depth 40 fits 4000

pub Mark-send : IsSend Mark.the_row
Mark-send = search (SharedEntry-send, sendable, crosses) depth 40 fits 4000

pub Mark-sync : IsSync Mark.the_row
Mark-sync = search (SharedEntry-sync, sendable, crosses) depth 40 fits 4000

pub Board-send : (N : RattleType) (g : Ghosts N.Denot) → IsSend N → IsSend (Board.the_row N g)
Board-send N g s = search (Page-send, front.the_send, sendable, crosses) depth 40 fits 4000

pub Board-sync : (N : RattleType) (g : Ghosts N.Denot) → IsSync N → IsSync (Board.the_row N g)
Board-sync N g s = search (Page-sync, front.the_sync, sendable, crosses) depth 40 fits 4000

pub Step-send : (N : RattleType) (g : Ghosts N.Denot) → IsSend N → IsSend (Step.the_row N g)
Step-send N g s = search (Mark-send, front.the_send, sendable, crosses) depth 40 fits 4000

pub Step-sync : (N : RattleType) (g : Ghosts N.Denot) → IsSync N → IsSync (Step.the_row N g)
Step-sync N g s = search (Mark-sync, front.the_sync, sendable, crosses) depth 40 fits 4000

-- what a reader of a board holds
abbrev marks : RattleType
marks = Linked.the_row Mark.the_row Heap.the_row ghosts

pub Reader-send : (N : RattleType) (g : Ghosts N.Denot) → IsSend N → IsSync N → IsSend (Reader.the_row N g)
Reader-send N g s y =
    let b = Board-sync N g y in
    view_send (in_reader.the_row N g) _ _ _ _ (recorded_send (in_reader.the_field N g).row _ _ (in_reader.the_type N g).to_one (struct_send (shape (in_reader.the_type N g)) (
      end.the_field_send (Board.the_row N g) marks Published.the_row Heap.the_row (rule.ghosts N g (given 0)) ghosts heap.the_send b heap.the_sync frees,
      (search (front.the_send, sendable), tt),
    )))

module _ (N : RattleType) (g : Ghosts N.Denot) (a : absorb.Ghosts (BoardOf N.Denot) (StepOf N.Denot) (List MarkOf)) (p : protocol.Ghosts PublishedOf (BoardOf N.Denot) (LinkedList MarkOf Global)) where
  pub Publisher-send : IsSend N → IsSync N → IsSend (Publisher.the_row N g a p)
  Publisher-send s y =
      let b = Board-send N g s in let c = Board-sync N g y in let o = Step-send N g s in
      view_send (in_publisher.the_row N g a p) _ _ _ _ (recorded_send (in_publisher.the_field N g a p).row _ _ (in_publisher.the_type N g a p).to_one (struct_send (shape (in_publisher.the_type N g a p)) (
        search (book.the_field_send, sendable),
        (
          search (front.the_send, sendable),
          (
            writer.the_field_send (Board.the_row N g) (Step.the_row N g) marks Published.the_row Heap.the_row (Array Mark.the_row 0) a p ghosts b o heap.the_send c heap.the_sync frees,
            (search (o, sendable, crosses), (search sendable, tt)),
          ),
        ),
      )))

module _ (K N R : RattleType) (k : keeper.Ghosts K.Denot) (g : Ghosts N.Denot) (a : absorb.Ghosts (BoardOf N.Denot) (StepOf N.Denot) (List MarkOf)) (p : protocol.Ghosts PublishedOf (BoardOf N.Denot) (LinkedList MarkOf Global)) where
  pub Desk-send : IsSend K → IsSend N → IsSync N → IsSend R → IsSend (Desk.the_row K N R k g a p)
  Desk-send sk s y sr =
      let q = Publisher-send N g a p s y in
      view_send (in_desk.the_row K N R k g a p) _ _ _ _ (recorded_send (in_desk.the_field K N R k g a p).row _ _ (in_desk.the_type K N R k g a p).to_one (struct_send (shape (in_desk.the_type K N R k g a p)) (
        heap.the_field_send,
        (search (Server-send, sendable), (sk, (q, (sr, tt)))),
      )))

  pub Lock-send : IsSend K → IsSend N → IsSync N → IsSend R → IsSend (Mutex.the_row (Desk.the_row K N R k g a p))
  Lock-send sk s y sr = let d = Desk-send sk s y sr in search (d, sendable, crosses) depth 40 fits 4000

  pub Lock-sync : IsSend K → IsSend N → IsSync N → IsSend R → IsSync (Mutex.the_row (Desk.the_row K N R k g a p))
  Lock-sync sk s y sr = let d = Desk-send sk s y sr in search (d, sendable, crosses) depth 40 fits 4000

  -- what a room holds
  pub Shared-send : IsSend K → IsSend N → IsSync N → IsSend R → IsSend (Arc.the_row (Mutex.the_row (Desk.the_row K N R k g a p)) Heap.the_row ghosts)
  Shared-send sk s y sr = Arc-send _ (Lock-send sk s y sr) (Lock-sync sk s y sr)

  pub Shared-sync : IsSend K → IsSend N → IsSync N → IsSend R → IsSync (Arc.the_row (Mutex.the_row (Desk.the_row K N R k g a p)) Heap.the_row ghosts)
  Shared-sync sk s y sr = Arc-sync _ (Lock-send sk s y sr) (Lock-sync sk s y sr)

-- what stands in a mailbox
pub Request-send : IsSend (Request.the_row Heap.the_row ghosts)
Request-send = search (leaves, sendable, crosses) depth 40 fits 4000

pub Receipt-send : (N : RattleType) (g : Ghosts N.Denot) → IsSend N → IsSend (Receipt.the_row N g)
Receipt-send N g s = search (SharedEntry-send, front.the_send, sendable, crosses) depth 40 fits 4000

pub Told-send : (N : RattleType) (g : Ghosts N.Denot) → IsSend N → IsSend (SeatAnswer.the_row N g)
Told-send N g s =
    let r = Receipt-send N g s in
    declared_send (SeatAnswer.the_type N g) (as_row_send (Result.the_field (Receipt.the_row N g) SubmitError.the_row) (search (r, submit_error.the_send, sendable)), (search (front.the_send, sendable), tt))

pub Ticket-send : (N : RattleType) (g : Ghosts N.Denot) → IsSend N → IsSend (Ticket.the_row N g)
Ticket-send N g s = declared_send (Ticket.the_type N g) (Request-send, (search (front.the_send, sendable), tt))

pub Reply-send : (N : RattleType) (g : Ghosts N.Denot) → IsSend N → IsSend (Reply.the_row N g)
Reply-send N g s = view_send (in_reply.the_row N g) _ _ _ _ (declared_send (in_reply.the_type N g) (Ticket-send N g s, (Told-send N g s, tt)))

pub Run-send : (N : RattleType) (g : Ghosts N.Denot) → IsSend N → IsSend (Run.the_row N g)
Run-send N g s =
    let q = Request-send in let r = Reply-send N g s in
    declared_send (Run.the_type N g) (search (q, sendable, crosses) depth 40 fits 4000, (search (front.the_send, sendable), (search (r, sendable, crosses) depth 40 fits 4000, tt)))

pub Content-send : (N : RattleType) (g : Ghosts N.Denot) → IsSend N → IsSend (Content.the_row N g)
Content-send N g s =
    let r = Reply-send N g s in
    variants_send (Content.enum N g) (tt, ((Run-send N g s, tt), (tt, ((search (r, sendable, crosses) depth 40 fits 4000, tt), tt))))

pub Slot-send : (N : RattleType) (g : Ghosts N.Denot) → IsSend N → IsSend (Slot.the_row N g)
Slot-send N g s = let c = Content-send N g s in declared_send (Slot.the_type N g) (search (c, sendable, crosses) depth 40 fits 4000, (search (sendable, crosses) depth 40 fits 4000, tt))

pub Slot-sync : (N : RattleType) (g : Ghosts N.Denot) → IsSend N → IsSync (Slot.the_row N g)
Slot-sync N g s = let c = Content-send N g s in declared_sync (Slot.the_type N g) (search (c, sendable, crosses) depth 40 fits 4000, (search (sendable, crosses) depth 40 fits 4000, tt))

pub Mailbox-send : (N : RattleType) (g : Ghosts N.Denot) → IsSend N → IsSend (Mailbox.the_row N g)
Mailbox-send N g s = let l = Slot-send N g s in declared_send (Mailbox.the_type N g) (search (l, sendable, crosses) depth 40 fits 4000, (search (sendable, crosses) depth 40 fits 4000, (search (sendable, crosses) depth 40 fits 4000, tt)))

pub Mailbox-sync : (N : RattleType) (g : Ghosts N.Denot) → IsSend N → IsSync (Mailbox.the_row N g)
Mailbox-sync N g s = let l = Slot-sync N g s in declared_sync (Mailbox.the_type N g) (search (l, sendable, crosses) depth 40 fits 4000, (search (sendable, crosses) depth 40 fits 4000, (search (sendable, crosses) depth 40 fits 4000, tt)))

-- a seat's slot in it, as a field
pub SeatSlot-field-send : (N : RattleType) (g : Ghosts N.Denot) → IsSend N → IsSend (SeatSlot.the_field N g).row
SeatSlot-field-send N g s = struct_send (shape (SeatSlot.the_type N g)) (heap.the_field_send, (Arc-send _ (Mailbox-send N g s) (Mailbox-sync N g s), (search sendable, tt)))

pub Seat-send : (N D : RattleType) (g : Ghosts N.Denot) → IsSend N → IsSync N → IsSend D → IsSync D → IsSend (Seat.the_row N D g)
Seat-send N D g s y sd yd =
    let r = Reader-send N g s y in
    let p = SeatSlot-field-send N g s in
    let q = Reply-send N g s in
    view_send (in_seat.the_row N D g) _ _ _ _ (recorded_send (in_seat.the_field N D g).row _ _ (in_seat.the_type N D g).to_one (struct_send (shape (in_seat.the_type N D g)) (Arc-send D sd yd, (p, (r, (search (q, sendable, crosses) depth 40 fits 4000, tt))))))

module _ (K N R : RattleType) (k : keeper.Ghosts K.Denot) (g : Ghosts N.Denot) where
  -- the lock of a room, as a caller's types have it
  abbrev pub lock : RattleType
  lock = Mutex.the_row (Desk.the_row K N R k g (absorbs.ghosts N g absorbs.no_dict) (rule.ghosts N g rule.no_dict))

  -- a seat of a room
  pub Room-seat-send : IsSend K → IsSend N → IsSync N → IsSend R → IsSend (Seat.the_row N lock g)
  Room-seat-send sk s y sr =
      let l = Lock-send K N R k g (absorbs.ghosts N g absorbs.no_dict) (rule.ghosts N g rule.no_dict) sk s y sr in
      let m = Lock-sync K N R k g (absorbs.ghosts N g absorbs.no_dict) (rule.ghosts N g rule.no_dict) sk s y sr in
      Seat-send N lock g s y l m

-- what a caller's `search` needs for a seat that it sends to a thread, beside `sendable` and `crosses`
pub ruleset seats = (Seat-send, Lock-send, Lock-sync, Shared-send, Shared-sync)
