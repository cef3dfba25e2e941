use Rattle.std.proofs.Common.{◌<◌, ◌∙◌, Vec, length, sym, ap, subst, set}
use Rattle.std.proofs.lemmas.List.{get_or_read}
use Rattle.canvas_blocks.specs.Blocks.{flat, index_of}
use Rattle.canvas_blocks.proofs.Placed.{at_index, item_read}
use Rattle.canvas_blocks.proofs.moves.copy.Goals as goal

pub returns-clause-items : goal.returns-clause-items
returns-clause-items g c d =
    let v : Vec g.row.T.Denot g.row.A.Denot = c.index.result.now in
    let lt : c.args.from.1 < length v.items = subst (λ (u : Vec g.row.T.Denot g.row.A.Denot). c.args.from.1 < length u.items) (sym c.index.ensures) (c.requires.from.offset_in v) in
    c.replace_in.ensures.items
    ∙ ap (set (flat c.args.blocks.now.items) (index_of c.args.blocks.now.items c.args.to.0 c.args.to.1))
    (get_or_read v.items c.args.from.1 c.index-item.result.now lt c.index-item.ensures d
    ∙ sym (item_read c.args.blocks.now.items _ c.args.from.0 c.args.from.1 (at_index c.args.blocks.now.items c.args.from.0 c.args.from.1 c.requires.from) v c.index.ensures d))
