use Rattle.std.proofs.Common.{◌≡◌, ◌++◌}
use Rattle.std.specs.List.{flat_map}
use Rattle.canvas_scene.specs.Report.{lines_of_object, object_lines}
use Rattle.canvas_scene.proofs.report.write_objects.Given as goal

-- what is written, and the lines of the objects that are still to come
abbrev pub invariant-loop-object : goal.invariant-loop-object
invariant-loop-object l = l.out.items ++ flat_map lines_of_object l.object-iterator ≡ l.initial.out.items ++ object_lines l.doc
