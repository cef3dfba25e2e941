-- Which of a server's types may be sent to a thread, one layer at a time.
use denote.RattleType.{RattleType}
use denote.Struct.Declared.{shape}
use denote.Param.Send.{IsSend, IsSync, recorded_send, sendable, struct_send}
use denote.Param.SendFields.{declared_send, declared_sync}
use Rattle.std.proofs.Crossing.{crosses, Arc-send}
use Rattle.std.specs.contracts.alloc.Global as Heap
use Rattle.std.specs.contracts.impls.GlobalAllocator.TheImpl.{ghosts}
use Rattle.std.specs.contracts.net.TcpStream as Stream
use Rattle.canvas_room.proofs.Sends.{leaves, Shared-send}
use Rattle.canvas_room.specs.contracts.room.Room as Room
use Rattle.canvas_room.specs.contracts.seat.Seat as Seat
use Rattle.canvas_journal.specs.declared.keeper.Keeper as keeper
use Rattle.canvas_board.specs.contracts.board.BoardAbsorbStep.TheImpl as absorbs
use Rattle.canvas_board.specs.contracts.rule.PublishedProtocolBoardLinkedListMark.TheImpl as rule
use Rattle.canvas_board.specs.declared.history.RoomName.{Ghosts}
use Rattle.canvas_board.proofs.history.Front.TheSendSync as front
use Rattle.room_handler.specs.contracts.shared_copy.SharedCopy as SharedCopy
use Rattle.bytes.proofs.shared.Bytes.TheSendSync as bytes
use Rattle.crossbeam_channel.specs.contracts.channel.Receiver as Receiver
use Rattle.canvas_bell.proofs.Bell.TheSendSync as bell
use Rattle.app_listener.proofs.options.Shared.TheSendSync as shared
use Rattle.app_listener.proofs.workers.Load.TheSendSync as load
use Rattle.app_server.proofs.glancing.Seen.TheSendSync as seen
use Rattle.app_server.proofs.budget.Budget.TheSendSync as budget
use Rattle.app_server.proofs.kicks.Kicks.TheSendSync as kicks
use Rattle.app_server.proofs.polling.Caller.TheSendSync as caller
use Rattle.app_server.proofs.polling.Post.TheSendSync as post
use Rattle.app_server.proofs.presence.Presence.TheSendSync as presence
use Rattle.app_server.proofs.copies.Wishes.TheSendSync as wishes
use Rattle.app_server.proofs.copies.Writer.TheSendSync as writer
use Rattle.app_server.proofs.copies.Wants.TheSendSync as wants
use Rattle.app_server.specs.contracts.copies.CopyTask as CopyTask
use Rattle.app_server.specs.contracts.copies.Copies as Copies
use Rattle.app_server.specs.contracts.copies.Held as Held
use Rattle.app_server.specs.contracts.glancing.GlanceTask as GlanceTask
use Rattle.app_server.specs.contracts.tasks.WorkerTask as WorkerTask

-- what a bell and those who hear it are made of
ruleset rings = (
  bell.the_send,
  bell.the_sync,
  bell.the_field_send,
  bell.the_field_sync,
  caller.the_send,
  caller.the_sync,
  caller.the_field_send,
  caller.the_field_sync,
)

-- the connections that a worker is given
pub Connections-send : IsSend (Receiver.the_row Stream.the_row Heap.the_row ghosts)
Connections-send = search (leaves, sendable, crosses) depth 40 fits 4000

-- the copy that clients are sent
pub SharedCopy-send : (N : RattleType) (g : Ghosts N.Denot) → IsSend N → IsSend (SharedCopy.the_row N g)
SharedCopy-send N g n = search (front.the_send, bytes.the_send, leaves, sendable, crosses) depth 40 fits 4000

pub Held-send : (N : RattleType) (g : Ghosts N.Denot) → IsSend N → IsSend (Held.the_row N g)
Held-send N g n =
    let c = SharedCopy-send N g n in
    declared_send (Held.the_type N g)
    (search (c, leaves, sendable, crosses) depth 40 fits 4000, (search (bytes.the_send, leaves, sendable, crosses) depth 40 fits 4000, (wishes.the_send, tt)))

pub Copies-send : (N : RattleType) (g : Ghosts N.Denot) → IsSend N → IsSend (Copies.the_row N g)
Copies-send N g n = let h = Held-send N g n in declared_send (Copies.the_type N g) (search (h, sendable, crosses) depth 40 fits 4000, (writer.the_send, tt))

pub Copies-sync : (N : RattleType) (g : Ghosts N.Denot) → IsSend N → IsSync (Copies.the_row N g)
Copies-sync N g n = let h = Held-send N g n in declared_sync (Copies.the_type N g) (search (h, sendable, crosses) depth 40 fits 4000, (writer.the_sync, tt))

-- what the thread that writes copies is given
pub CopyTask-send : (N D R : RattleType) (g : Ghosts N.Denot) → IsSend N → IsSend (Seat.the_row N D g) → IsSend R → IsSend (CopyTask.the_row N D R g)
CopyTask-send N D R g n s r =
    recorded_send (CopyTask.the_field N D R g).row _ _ (CopyTask.the_type N D R g).to_one
    (struct_send (shape (CopyTask.the_type N D R g)) (r, (s, (Arc-send _ (Copies-send N g n) (Copies-sync N g n), (Arc-send _ budget.the_send budget.the_sync, (wants.the_field_send, tt))))))

-- what the thread of a worker is given
pub WorkerTask-send : (N D R : RattleType) (g : Ghosts N.Denot) → IsSend N → IsSend (Seat.the_row N D g) → IsSend R → IsSend (WorkerTask.the_row N D R g)
WorkerTask-send N D R g n s r =
    recorded_send (WorkerTask.the_field N D R g).row _ _ (WorkerTask.the_type N D R g).to_one
    (struct_send (shape (WorkerTask.the_type N D R g)) (r, (s, (s, (Arc-send _ shared.the_send shared.the_sync, (Arc-send _ (Copies-send N g n) (Copies-sync N g n), (Arc-send _ budget.the_send budget.the_sync, (Connections-send, (Arc-send _ load.the_send load.the_sync, (post.the_field_send, (search (rings, sendable, crosses) depth 40 fits 4000, (Arc-send _ presence.the_send presence.the_sync, (Arc-send _ kicks.the_send kicks.the_sync, tt)))))))))))))

module _ (K N R : RattleType) (k : keeper.Ghosts K.Denot) (g : Ghosts N.Denot) where
  -- a room
  pub Room-send : IsSend K → IsSend N → IsSync N → IsSend R → IsSend (Room.the_field K N R k g (absorbs.ghosts N g absorbs.no_dict) (rule.ghosts N g rule.no_dict)).row
  Room-send sk s y sr =
      let a = absorbs.ghosts N g absorbs.no_dict in
      let p = rule.ghosts N g rule.no_dict in
      struct_send (shape (Room.the_type K N R k g a p)) (Shared-send K N R k g a p sk s y sr, tt)

  -- what the thread is given that looks at it
  pub GlanceTask-send : IsSend K → IsSend N → IsSync N → IsSend R → IsSend (GlanceTask.the_row K N R k g)
  GlanceTask-send sk s y sr =
      recorded_send (GlanceTask.the_field K N R k g).row _ _ (GlanceTask.the_type K N R k g).to_one
      (struct_send (shape (GlanceTask.the_type K N R k g)) (sr, (Room-send sk s y sr, (Arc-send _ shared.the_send shared.the_sync, (Arc-send _ seen.the_send seen.the_sync, tt)))))
