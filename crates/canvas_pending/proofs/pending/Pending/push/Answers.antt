use Rattle.std.proofs.Common.{◌∙◌, ◌++◌, ◌∷◌, [], ap}
use Rattle.canvas_pending.proofs.Waiting.{adds_last, one_more, same_counts}
use Rattle.canvas_pending.proofs.pending.Pending.push.Goals as goal

pub invariant_of-self-in_err-raise : goal.invariant_of-self-in_err-raise
invariant_of-self-in_err-raise g c =
    same_counts c.self.inside.changes.items c.reserve.new.self.items c.self.inside.tallies c.raise.new.tallies c.reserve.ensures.items c.raise.ensures.tallies c.self.invariant c.in_err-raise.ensures.err

pub invariant_of-self-2 : goal.invariant_of-self-2
invariant_of-self-2 g c =
    let last = c.push_back_reserved.ensures.items ∙ ap (λ xs. xs ++ c.args.change ∷ []) c.reserve.ensures.items in
    one_more c.args.change c.self.inside.changes.items c.push_back_reserved.new.self.items (adds_last c.args.change c.self.inside.changes.items c.push_back_reserved.new.self.items last) c.self.inside.tallies c.raise.new.tallies
    c.raise.ensures.tallies c.self.invariant c.in_ok-raise.ensures.ok
