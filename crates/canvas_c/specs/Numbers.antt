-- The numbers that calls answer. No number means two things.
use Rattle.std.specs.Prelude.{ℕ, ◌+◌}
use Rattle.canvas_pos.specs.declared.PosError.{PosError}
use Rattle.canvas_pos.specs.declared.PosError.TheVariants as position
use Rattle.canvas_value.specs.declared.names.NameError.{NameError}
use Rattle.canvas_value.specs.declared.names.NameError.TheVariants as name
use Rattle.canvas_judge.specs.Reasons as reasons
use Rattle.canvas_client.specs.Asked.{refusal, number_of}
use Rattle.canvas_client.specs.Ends.{end_error_number}
use Rattle.canvas_client.specs.Placed.{place_number_of, place_refusal}
use Rattle.canvas_client.specs.declared.error.EditError.{EditError}
use Rattle.canvas_client.specs.declared.error.PlaceError.{PlaceError}
use Rattle.canvas_client.specs.declared.received.Received.{Received}
use Rattle.canvas_client.specs.declared.received.Received.TheVariants as received
use Rattle.canvas_wire.specs.declared.fault.WireError.{WireError}
use Rattle.canvas_wire.specs.declared.fault.WireError.TheVariants as wire
use Rattle.canvas_embed.specs.declared.fault.ValueError.{ValueError}
use Rattle.canvas_embed.specs.declared.fault.ValueError.TheVariants as value
use Rattle.canvas_embed.specs.declared.fault.CreateError.{CreateError}
use Rattle.canvas_embed.specs.declared.fault.CreateError.TheVariants as create
use Rattle.canvas_embed.specs.declared.fault.SetError.{SetError}
use Rattle.canvas_embed.specs.declared.fault.SetError.TheVariants as set
use Rattle.canvas_embed.specs.declared.fault.ClearError.{ClearError}
use Rattle.canvas_embed.specs.declared.fault.ClearError.TheVariants as clear
use Rattle.canvas_embed.specs.declared.fault.CreateAtError.{CreateAtError}
use Rattle.canvas_embed.specs.declared.fault.CreateAtError.TheVariants as create_at
use Rattle.canvas_embed.specs.declared.fault.MoveAtError.{MoveAtError}
use Rattle.canvas_embed.specs.declared.fault.MoveAtError.TheVariants as move_at
use Rattle.canvas_embed.specs.declared.fault.CreateEndError.{CreateEndError}
use Rattle.canvas_embed.specs.declared.fault.CreateEndError.TheVariants as create_end
use Rattle.canvas_embed.specs.declared.fault.LoadError.{LoadError}
use Rattle.canvas_embed.specs.declared.fault.LoadError.TheVariants as load
use Rattle.canvas_embed.specs.declared.fault.ResumeError.{ResumeError}
use Rattle.canvas_embed.specs.declared.fault.ResumeError.TheVariants as resume
use Rattle.canvas_embed.specs.declared.resuming.Resumed.{Resumed}
use Rattle.canvas_embed.specs.declared.resuming.Resumed.TheVariants as resumed
use Rattle.canvas_embed.specs.declared.heard.Heard.{Heard}
use Rattle.canvas_embed.specs.declared.heard.Heard.TheVariants as heard

-- the call has done what it is for
abbrev pub call_done : ℕ
call_done = 0

-- the object isn't in the tree
abbrev pub not_shown : ℕ
not_shown = 2

-- memory was refused
abbrev pub memory : ℕ
memory = 10

-- the handle holds no client
abbrev pub no_client : ℕ
no_client = 20

-- the handle holds a client already
abbrev pub held : ℕ
held = 21

-- there is no such text
abbrev pub nothing : ℕ
nothing = 22

-- the room is too small
abbrev pub no_room : ℕ
no_room = 23

-- why the client refuses an edit: 1 to 11, 10 for want of memory; at a place 12 too
abbrev pub edit_number : EditError → ℕ
edit_number e = number_of (refusal e)

abbrev pub place_number : PlaceError → ℕ
place_number e = place_number_of (place_refusal e)

-- why bytes are no position
abbrev pub position_number : PosError → ℕ
position_number position.Empty = 33
position_number position.TooLong = 34
position_number (position.BadByte i) = 35
position_number position.TrailingZero = 36
position_number position.Memory = memory

-- why bytes are no name
abbrev pub name_number : NameError → ℕ
name_number name.Empty = 30
name_number name.TooLong = 31
name_number name.BadByte = 32
name_number name.Memory = memory

-- why bytes are the JSON of no value
abbrev pub value_number : ValueError → ℕ
value_number value.NotJson = 40
value_number value.NotAValue = 41
value_number value.OutOfRange = 43
value_number value.TooDeep = 44
value_number value.Memory = memory

-- why bytes are the text of no message
abbrev pub wire_number : WireError → ℕ
wire_number wire.NotJson = 40
wire_number wire.NotAMessage = 42
wire_number wire.OutOfRange = 43
wire_number wire.TooDeep = 44
wire_number wire.Memory = memory

-- why nothing is created
abbrev pub create_number : CreateError → ℕ
create_number create.NoKind = 24
create_number (create.Edit e) = edit_number e

-- why nothing is created at a place
abbrev pub create_at_number : CreateAtError → ℕ
create_at_number create_at.NoKind = 24
create_at_number (create_at.Position e) = position_number e
create_at_number (create_at.Edit e) = place_number e

-- why nothing is moved to a place
abbrev pub move_at_number : MoveAtError → ℕ
move_at_number (move_at.Position e) = position_number e
move_at_number (move_at.Edit e) = place_number e

-- why nothing is created at an end of a parent's children
abbrev pub create_end_number : CreateEndError → ℕ
create_end_number create_end.NoKind = 24
create_end_number (create_end.Edit e) = end_error_number e

-- why no property is set
abbrev pub set_number : SetError → ℕ
set_number (set.Name e) = name_number e
set_number (set.Value e) = value_number e
set_number (set.Edit e) = edit_number e

-- why no property is taken away
abbrev pub clear_number : ClearError → ℕ
clear_number (clear.Name e) = name_number e
clear_number (clear.Edit e) = edit_number e

-- why bytes are no client
abbrev pub load_number : LoadError → ℕ
load_number load.NotJson = 40
load_number load.NotAClient = 45
load_number load.OutOfRange = 43
load_number load.TooDeep = 44
load_number load.Inconsistent = 46
load_number load.Memory = memory

-- what the client did with a message
abbrev pub received_number : Received → ℕ
received_number received.Took = 50
received_number received.Old = 51
received_number received.Ahead = 52
received_number received.NotForMe = 53

-- what was heard of the server: 60 and the number of the reason for a No
abbrev pub heard_number : Heard → ℕ
heard_number (heard.Received received) = received_number received
heard_number heard.Idle = 54
heard_number (heard.No reason) = 60 + reasons.number_of reason

-- what became of an edit that was saved
abbrev pub resumed_number : Resumed → ℕ
resumed_number resumed.Made = call_done
resumed_number resumed.Had = 51

-- why no edit is made again
abbrev pub resume_number : ResumeError → ℕ
resume_number (resume.Message e) = wire_number e
resume_number resume.NotAnEdit = 47
resume_number resume.NotOwn = 48
resume_number resume.Gap = 49
resume_number resume.NotNext = 46
