use Rattle.canvas_embed.proofs.Stacks.{Rests}
use Rattle.canvas_embed.proofs.trees.text_of.Given as goal

abbrev pub invariant-loop : goal.invariant-loop
invariant-loop l = Rests l.doc l.counter l.pending.items l.text.items
