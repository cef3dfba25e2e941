use Rattle.std.proofs.Common.{◌≡◌, ◌/◌, Vec, length, get_or, sym, ap, ◌∙◌, arith}
use Rattle.std.proofs.lemmas.List.{get_or_default}
use Rattle.canvas_blocks.proofs.Placed.{halved, halves_full}
use Rattle.canvas_blocks.proofs.blocks.split.Goals as goal

pub returns-clause-items : goal.returns-clause-items
returns-clause-items g c = halved c.args.blocks.now.items c.reserve.new.self.items c.insert.new.self.items c.args.block _ _ c.index_mut.result.now c.split_off.new.self c.in_ok-upper.upper c.in_ok-reserve.ensures.items (omega arith) c.index_mut.ensures.value c.in_ok-upper.ensures.items c.in_ok-upper.ensures.tail (omega arith) c.in_ok-insert.ensures.items

pub returns-clause-none_empty : goal.returns-clause-none_empty
returns-clause-none_empty g c =
    let half = c.len-half.result / 2 in
    let v : Vec g.row.T.Denot g.row.A.Denot = c.index_mut.result.now in
    let two = c.requires.long v in
    let same : length v.items ≡ length (get_or c.args.blocks.now.items c.args.block v).items = ap (λ (u : Vec g.row.T.Denot g.row.A.Denot). length u.items) (c.index_mut.ensures.value ∙ ap (λ l. get_or l c.args.block v) c.in_ok-reserve.ensures.items) in
    let one : c.index.result.now ≡ v = c.index.ensures ∙ get_or_default c.reserve.new.self.items c.args.block c.index.result.now v (omega (arith, ap length c.in_ok-reserve.ensures.items)) ∙ sym c.index_mut.ensures.value in
    let size : c.len-half.result ≡ length v.items = c.len-half.ensures ∙ ap (λ (u : Vec g.row.T.Denot g.row.A.Denot). u.len) one ∙ v.ok.0 in
    halves_full c.args.blocks.now.items c.reserve.new.self.items c.insert.new.self.items c.args.block _ half c.index_mut.result.now c.split_off.new.self c.in_ok-upper.upper c.in_ok-reserve.ensures.items (omega arith) c.index_mut.ensures.value c.in_ok-upper.ensures.items c.in_ok-upper.ensures.tail (omega arith) c.in_ok-insert.ensures.items c.requires.none_empty (omega (arith, two, same, size)) (omega (arith, two, same, size))
