-- What contracts see of events and answers.
use Rattle.std.specs.Prelude.{Option, Some, None}
use Rattle.canvas_model.specs.Local as local
use Rattle.canvas_model.specs.World as world
use Rattle.canvas_client.specs.Asked.{refusal}
use Rattle.canvas_client.specs.Seen.{seen_received}
use Rattle.canvas_world.specs.declared.event.EventVariant.{EventVariant}
use Rattle.canvas_world.specs.declared.event.EventVariant.TheVariants as variant
use Rattle.canvas_world.specs.declared.event.Answer.{Answer}
use Rattle.canvas_world.specs.declared.event.Answer.TheVariants as answer

-- the event that is stored here
abbrev pub seen_event : {A : Type 0} → EventVariant A → world.Event
seen_event variant.AddNode = world.AddNode
seen_event (variant.AskJoin k) = world.AskJoin k
seen_event (variant.Edit k request) = world.MakeEdit k request
seen_event (variant.Send k i) = world.Send k i
seen_event (variant.Take m) = world.Take m
seen_event variant.Sync = world.Sync
seen_event variant.Publish = world.Publish
seen_event (variant.Welcome v) = world.SendWelcome v
seen_event (variant.Tell v k) = world.Tell v k
seen_event (variant.Copy k) = world.Copy k
seen_event (variant.Deliver m) = world.Deliver m
seen_event variant.Checkpoint = world.Checkpoint
seen_event (variant.Restart n) = world.Restart n

-- a refusal of an edit; want of memory is no answer
abbrev pub refused_as : Option local.EditError → world.Answer
refused_as None = world.Nothing
refused_as (Some e) = world.RefusedEdit e

-- the answer that this is
abbrev pub seen_answer : Answer → world.Answer
seen_answer answer.Nothing = world.Nothing
seen_answer (answer.NodeIs k) = world.NodeIs k
seen_answer (answer.MessageIs m) = world.MessageIs m
seen_answer (answer.EditIs n) = world.EditIs n
seen_answer (answer.RefusedEdit e) = refused_as (refusal e)
seen_answer (answer.Judged v) = world.Judged v
seen_answer answer.Repeat = world.Repeat
seen_answer answer.Gap = world.Gap
seen_answer answer.Stranger = world.Stranger
seen_answer answer.FullServer = world.FullServer
seen_answer (answer.SyncedIs v) = world.SyncedIs v
seen_answer (answer.PublishedIs v) = world.PublishedIs v
seen_answer (answer.Delivered r) = world.Delivered (seen_received r)
seen_answer (answer.FloorIs v) = world.FloorIs v
seen_answer (answer.VersionIs v) = world.VersionIs v
