use Rattle.std.proofs.Common.{◌≡◌, take}
use Rattle.canvas_model.specs.World.{Run}
use Rattle.canvas_world.proofs.World.advance_each.Given as goal

abbrev pub invariant-loop-event : goal.invariant-loop-event
invariant-loop-event g l = record { run : Run l.initial.self (take l.event-index l.events) l.self; count : l.done ≡ l.event-index }
