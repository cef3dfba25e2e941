use Rattle.std.specs.Prelude.{◌↔◌}
use Rattle.std.specs.List.{All}
use Rattle.std.specs.FinMap as map
use Rattle.canvas_judge.specs.Sound.{IsSoundAt}
use Rattle.canvas_judge.proofs.sound.each_is_sound.Given as goal

-- all objects are sound where those that are still to come are
abbrev pub invariant-loop-object : goal.invariant-loop-object
invariant-loop-object g l = All (IsSoundAt (record { doc = l.doc; clients = l.clients })) l.object-iterator ↔ All (IsSoundAt (record { doc = l.doc; clients = l.clients })) (map.entries l.doc)
