use Rattle.std.proofs.Common.{◌≡◌, ◌+◌, ◌-◌, ◌<◌, ◌∷◌, [], ◌++◌, length, length-append, rules, set, sym, ap, arith}
use Rattle.canvas_blocks.specs.Blocks.{flat, sizes}
use Rattle.canvas_blocks.proofs.Sized.{in_grown, same_in, same_index, same_size, start_set}
use Rattle.canvas_blocks.proofs.Placed.{block_kept, block_pushed}
use Rattle.canvas_blocks.proofs.blocks.push_to.Goals as goal

pub returns-in_err-push-clause-err : goal.returns-in_err-push-clause-err
returns-in_err-push-clause-err g c =
    let back : flat (set c.args.blocks.now.items (c.len-len.result - 1) c.push.new.self) ≡ flat c.args.blocks.now.items =
    block_kept c.args.blocks.now.items (c.len-len.result - 1) c.index_mut.result.now c.push.new.self (omega arith) c.index_mut.ensures.value c.in_err-push.ensures.items in
    search rules

pub returns-then-len-lt-MOST-clause-ok : goal.returns-then-len-lt-MOST-clause-ok
returns-then-len-lt-MOST-clause-ok g c = block_pushed c.args.blocks.now.items (c.len-len.result - 1) c.index_mut.result.now c.push.new.self c.args.item (omega arith) c.index_mut.ensures.value c.in_ok-push.ensures.items

pub returns-in_err-push-clause-sizes : goal.returns-in_err-push-clause-sizes
returns-in_err-push-clause-sizes g c =
    let same : sizes (set c.args.blocks.now.items (c.len-len.result - 1) c.push.new.self) ≡ sizes c.args.blocks.now.items =
    same_size c.args.blocks.now.items (c.len-len.result - 1) c.index_mut.result.now c.push.new.self (omega arith) c.index_mut.ensures.value (ap length c.in_err-push.ensures.items) in
    search rules

pub returns-in_err-push-clause-stays : goal.returns-in_err-push-clause-stays
returns-in_err-push-clause-stays g c b o there =
    let same : sizes (set c.args.blocks.now.items (c.len-len.result - 1) c.push.new.self) ≡ sizes c.args.blocks.now.items =
    same_size c.args.blocks.now.items (c.len-len.result - 1) c.index_mut.result.now c.push.new.self (omega arith) c.index_mut.ensures.value (ap length c.in_err-push.ensures.items) in
    (same_in c.args.blocks.now.items _ b o (sym same) there, same_index _ c.args.blocks.now.items b o same)

pub returns-then-len-lt-MOST-clause-stays : goal.returns-then-len-lt-MOST-clause-stays
returns-then-len-lt-MOST-clause-stays g c b o there =
    let long : length c.push.new.self.items ≡ length (c.index_mut.result.now.items ++ c.args.item ∷ []) = ap length c.in_ok-push.ensures.items in
    let more : length (c.index_mut.result.now.items ++ c.args.item ∷ []) ≡ length c.index_mut.result.now.items + 1 = length-append c.index_mut.result.now.items (c.args.item ∷ []) in
    let at : c.len-len.result - 1 < length c.args.blocks.now.items = omega arith in (
      in_grown c.args.blocks.now.items (c.len-len.result - 1) b o c.index_mut.result.now c.push.new.self at c.index_mut.ensures.value (omega (arith, long, more)) there,
      ap (λ l. length (flat l) + o) (start_set c.args.blocks.now.items (c.len-len.result - 1) b c.push.new.self (omega (arith, there.block_in))),
    )
