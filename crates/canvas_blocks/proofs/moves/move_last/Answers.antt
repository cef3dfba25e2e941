use Rattle.std.proofs.Common.{◌≡◌, ◌∷◌, ◌++◌, [], ap, ◌∙◌}
use Rattle.std.specs.List.{remove}
use Rattle.canvas_blocks.specs.Blocks.{flat, index_of}
use Rattle.canvas_blocks.proofs.Shifted.{moved_last}
use Rattle.canvas_blocks.proofs.Sized.{index_within}
use Rattle.canvas_blocks.proofs.moves.move_last.Goals as goal

pub take-requires-clause-there : goal.take-requires-clause-there
take-requires-clause-there g c = (c.push_to.ensures.stays c.args.from.0 c.args.from.1 c.requires.from).0

pub returns-clause-ok : goal.returns-clause-ok
returns-clause-ok g c =
    let bs = c.args.blocks.now.items in
    let there = c.push_to.ensures.stays c.args.from.0 c.args.from.1 c.requires.from in
    let pushed : flat c.push_to.new.blocks.items ≡ flat bs ++ c.args.item ∷ [] = c.in_ok-push_to.ensures.ok in
    c.take.ensures.items ∙ ap (λ l. remove l (index_of c.push_to.new.blocks.items c.args.from.0 c.args.from.1)) pushed ∙ ap (remove (flat bs ++ c.args.item ∷ [])) there.1
    ∙ moved_last (flat bs) (index_of bs c.args.from.0 c.args.from.1) c.args.item (index_within bs c.args.from.0 c.args.from.1 c.requires.from)
