use Rattle.std.proofs.Common.{◌≡◌, ◌++◌, take}
use Rattle.std.specs.Prelude.{string_bytes, codes}
use Rattle.std.specs.List.{flat_map}
use Rattle.canvas_model.specs.Text.{id_text}
use Rattle.canvas_scene.proofs.answers.outcome_text.Given as goal

abbrev pub invariant-loop-id : goal.invariant-loop-id
invariant-loop-id l = string_bytes l.text ≡ codes "removed" ++ flat_map (λ id. codes " " ++ id_text id) (take l.id-index l.id-items)
