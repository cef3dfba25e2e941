use Rattle.std.proofs.Common.{take, map}
use Rattle.canvas_judge.specs.Seen.{seen_message}
use Rattle.canvas_nodes.specs.Answers.{AreMessageTexts}
use Rattle.canvas_nodes.proofs.answering.texts_of.Given as goal

abbrev pub invariant-loop-message : goal.invariant-loop-message
invariant-loop-message l = AreMessageTexts (map (λ t. t.items) l.texts.items) (map seen_message (take l.message-index l.messages))
