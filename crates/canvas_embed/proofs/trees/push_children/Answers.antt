use Rattle.std.proofs.Common.{◌+◌, ◌++◌, ◌∙◌, ap}
use Rattle.std.specs.Prelude.{map}
use Rattle.std.proofs.lemmas.List.{take_all}
use Rattle.canvas_embed.specs.Trees.{pending_at}
use Rattle.canvas_embed.proofs.Stacks.{from_last}
use Rattle.canvas_embed.proofs.trees.push_children.Goals as goal

pub returns : goal.returns
returns c =
    let old = c.args.pending.now.items in let n = c.args.at.level + 1 in let ids = c.in_ok-ids.ids.items in
    record {
      ids = ids;
      children = c.in_ok-ids.ensures;
      behind = c.loop-id.invariant ∙ ap (λ v. old ++ map (pending_at n) v) (take_all c.loop-id.id-index c.deref-id-items.result.now c.loop-id-test.false ∙ c.deref-id-items.ensures.value ∙ c.reverse.ensures.items) ∙ ap (λ v. old ++ v) (from_last n ids);
    }
