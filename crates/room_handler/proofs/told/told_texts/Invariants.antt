use Rattle.std.proofs.Common.{take, map}
use Rattle.canvas_nodes.specs.Answers.{AreMessageTexts}
use Rattle.room_handler.specs.Told.{seen_told}
use Rattle.room_handler.proofs.told.told_texts.Given as goal

abbrev pub invariant-loop-message : goal.invariant-loop-message
invariant-loop-message l = AreMessageTexts (map (λ t. t.items) l.texts.items) (map seen_told (take l.message-index l.told))
