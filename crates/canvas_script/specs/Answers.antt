-- The lines that answer events.
use Rattle.std.specs.Prelude.{ℕ, List, [], codes}
use Rattle.canvas_model.specs.Receive.{Received, Took, Old, Ahead, NotForMe}
use Rattle.canvas_model.specs.World.{Answer, Nothing, NodeIs, MessageIs, EditIs, RefusedEdit, Judged, Repeat, Gap, Stranger, FullServer, SyncedIs, PublishedIs, Delivered, FloorIs, VersionIs}
use Rattle.canvas_edit_lines.specs.Answers.{edit_line, number_line, refused_line}

-- what a node did with a message
abbrev pub received_line : Received → List ℕ
received_line Took = codes "took\n"
received_line Old = codes "old\n"
received_line Ahead = codes "ahead\n"
received_line NotForMe = codes "not for me\n"

-- an answer is a line of its own, but that of a new node is none
abbrev pub answer_line : Answer → List ℕ
answer_line Nothing = codes "nothing\n"
answer_line (NodeIs k) = []
answer_line (MessageIs m) = number_line (codes "message") m
answer_line (EditIs n) = edit_line n
answer_line (RefusedEdit error) = refused_line error
answer_line (Judged v) = number_line (codes "judged") v
answer_line Repeat = codes "repeat\n"
answer_line Gap = codes "gap\n"
answer_line Stranger = codes "stranger\n"
answer_line FullServer = codes "full\n"
answer_line (SyncedIs v) = number_line (codes "synced") v
answer_line (PublishedIs v) = number_line (codes "published") v
answer_line (Delivered received) = received_line received
answer_line (FloorIs v) = number_line (codes "floor") v
answer_line (VersionIs v) = number_line (codes "version") v
