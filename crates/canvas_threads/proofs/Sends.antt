-- Which of a node's types may be sent to a thread, one layer at a time.
use denote.RattleType.{RattleType}
use denote.Struct.Declared.{shape}
use denote.Enum.Declared as enum
use denote.Param.Send.{IsSend, enum_send, owning_send, recorded_send, sendable, struct_send, view_send}
use Rattle.std.proofs.Crossing.{crosses}
use Rattle.std.proofs.MapsCrossing as maps
use Rattle.std.specs.contracts.alloc.Global as Heap
use Rattle.std.specs.contracts.impls.GlobalAllocator.TheImpl.{ghosts}
use Rattle.canvas_room.proofs.Sends.{leaves}
use Rattle.canvas_client.specs.contracts.changes.Changes as Changes
use Rattle.canvas_client.specs.contracts.client.Client as Client
use Rattle.canvas_client.specs.contracts.client.Client.TheInside as in_client
use Rattle.canvas_client.specs.contracts.merged.Merged as Merged
use Rattle.canvas_client.specs.contracts.shown.Shown as Shown
use Rattle.canvas_client.specs.contracts.request.EditRequest as EditRequest
use Rattle.canvas_pending.specs.contracts.pending.Pending as Pending
use Rattle.canvas_board.specs.declared.history.RoomName.{Ghosts}
use Rattle.canvas_room.specs.contracts.seat.Seat as Seat
use Rattle.room_handler.specs.contracts.seat_link.SeatLink as Link
use Rattle.room_handler.specs.contracts.seat_link.SeatLink.TheInside as in_link
use Rattle.std.proofs.alloc.Global.TheSendSync as heap
use Rattle.crossbeam_channel.specs.contracts.channel.Receiver as Receiver
use Rattle.canvas_nodes.proofs.link.LinkError.TheSendSync as link_error
use Rattle.canvas_threads.specs.contracts.client_node.Command as Command
use Rattle.canvas_threads.specs.contracts.client_node.Ended as Ended
use Rattle.canvas_threads.specs.contracts.client_node.Work as Work
use Rattle.canvas_threads.specs.contracts.nodes.Done as Done
use Rattle.canvas_desk.specs.contracts.faults.SubmitError as SubmitError
use Rattle.canvas_desk.proofs.faults.SubmitError.TheSendSync as submit_error
use Rattle.std.specs.contracts.result.Result as Result

pub Pending-send : IsSend (Pending.the_row Heap.the_row ghosts)
Pending-send = search (leaves, sendable, crosses, maps.crosses) depth 40 fits 4000

-- a count that only proofs see owns nothing
pub Changes-send : IsSend Changes.the_row
Changes-send = owning_send Changes.the_type tt (λ d. tt) (λ k x w. tt)

pub Shown-field : IsSend (Shown.the_field Heap.the_row ghosts).row
Shown-field = search (leaves, Changes-send, sendable, crosses) depth 40 fits 4000

pub Merged-field : IsSend (Merged.the_field Heap.the_row ghosts).row
Merged-field = struct_send (shape (Merged.the_type Heap.the_row ghosts)) (Pending-send, (Changes-send, (Shown-field, (search sendable, tt))))

pub Client-send : IsSend (Client.the_row Heap.the_row ghosts)
Client-send =
    view_send (in_client.the_row Heap.the_row ghosts) _ _ _ _ (recorded_send (in_client.the_field Heap.the_row ghosts).row _ _ (in_client.the_type Heap.the_row ghosts).to_one
    (struct_send (shape (in_client.the_type Heap.the_row ghosts)) (search (leaves, sendable), (search sendable, (search sendable, (search sendable, (Merged-field, tt)))))))

pub EditRequest-send : IsSend (EditRequest.the_row Heap.the_row ghosts)
EditRequest-send = search (leaves, sendable, crosses) depth 40 fits 4000

-- what a client's thread gives back
pub Ended-send : IsSend Ended.the_row
Ended-send = recorded_send Ended.the_field.row _ _ Ended.the_type.to_one (struct_send (shape Ended.the_type) (Client-send, (search (link_error.the_send, sendable) depth 40, tt)))

pub Command-send : IsSend Command.the_row
Command-send = search (EditRequest-send, sendable, crosses) depth 40 fits 4000

pub Inbox-send : IsSend (Receiver.the_row Command.the_row Heap.the_row ghosts)
Inbox-send = search (Command-send, leaves, sendable, crosses) depth 40 fits 4000

-- what a client's thread is given to do
pub Work-send : (L R : RattleType) → IsSend L → IsSend R → IsSend (Work.the_row L R)
Work-send L R l r =
    recorded_send (Work.the_field L R).row _ _ (Work.the_type L R).to_one (struct_send (shape (Work.the_type L R)) (heap.the_field_send, (r, (Client-send, (l, (Inbox-send, tt))))))

-- what a node's thread gives back
pub Done-send : (S : RattleType) → IsSend S → IsSend (Done.the_row S)
Done-send S s = recorded_send (Done.the_field S).row _ _ (Done.the_type S).to_one (struct_send (shape (Done.the_type S)) (Client-send, (s, tt)))

pub Ended-each-send : (S : RattleType) → IsSend S → IsSend (Result.the_row (Done.the_row S) SubmitError.the_row)
Ended-each-send S s =
    let d = Done-send S s in
    let T = Result.the_type (Done.the_row S) SubmitError.the_row in
    recorded_send _ _ _ T.to_one (enum_send (enum.shape T) (search (d, submit_error.the_send, sendable) depth 40))

module _ (N D W : RattleType) (g : Ghosts N.Denot) where
  -- a link to a seat
  pub SeatLink-send : IsSend (Seat.the_row N D g) → IsSend W → IsSend (Link.the_row N D W g)
  SeatLink-send s w =
      view_send (in_link.the_row N D W g) _ _ _ _ (recorded_send (in_link.the_field N D W g).row _ _ (in_link.the_type N D W g).to_one
      (struct_send (shape (in_link.the_type N D W g)) (heap.the_field_send, (w, (s, tt)))))
