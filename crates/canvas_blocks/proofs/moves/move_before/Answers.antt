use Rattle.std.proofs.Common.{◌≡◌, ◌<◌, length, set, rules, ap, ◌∙◌, arith}
use Rattle.std.specs.List.{remove}
use Rattle.canvas_blocks.specs.Blocks.{flat, index_of, moved, sizes}
use Rattle.canvas_blocks.proofs.Moving.{moved_between, moved_in_block}
use Rattle.canvas_blocks.proofs.Placed.{block_kept}
use Rattle.canvas_blocks.proofs.Sized.{same_size}
use Rattle.canvas_blocks.proofs.moves.move_before.Goals.{then-to-from+then-to-from-2, else-to-from, else-to-from-via-then-to-from+else-to-from-2, else-to-from-via-else-to-from}
use Rattle.canvas_blocks.proofs.moves.move_before.Goals as goal

pub returns-in_err-insert-clause-err : goal.returns-in_err-insert-clause-err
returns-in_err-insert-clause-err g c =
    let back : flat (set c.args.blocks.now.items c.args.to.0 c.insert.new.self) ≡ flat c.args.blocks.now.items =
    block_kept c.args.blocks.now.items c.args.to.0 c.index_mut.result.now c.insert.new.self c.requires.to.block_in c.index_mut.ensures.value c.in_err-insert.ensures.items in
    search rules

pub returns-in_err-insert-clause-sizes : goal.returns-in_err-insert-clause-sizes
returns-in_err-insert-clause-sizes g c =
    let same : sizes (set c.args.blocks.now.items c.args.to.0 c.insert.new.self) ≡ sizes c.args.blocks.now.items =
    same_size c.args.blocks.now.items c.args.to.0 c.index_mut.result.now c.insert.new.self c.requires.to.block_in c.index_mut.ensures.value (ap length c.in_err-insert.ensures.items) in
    search rules

pub returns-clause-ok : goal.returns-clause-ok
returns-clause-ok g c =
    let bs = c.args.blocks.now.items in
    let cs = set bs c.args.to.0 c.insert.new.self in
    let from = c.args.from in
    let to = c.args.to in
    let o = c.if-to-from.offset in
    let done : remove (flat cs) (index_of cs from.0 o) ≡ moved (flat bs) (index_of bs from.0 from.1) (index_of bs to.0 to.1) c.args.item = elim c.if-to-from.branch as (λ _. remove (flat cs) (index_of cs from.0 o) ≡ moved (flat bs) (index_of bs from.0 from.1) (index_of bs to.0 to.1) c.args.item) [
      | then-to-from+then-to-from-2 w ↦ moved_in_block bs from to c.index_mut.result.now c.insert.new.self c.args.item c.requires.from c.requires.to c.index_mut.ensures.value c.in_ok-insert.ensures.items o w.if-to-from.true w.if-to-from-2.true w.offset-is
      | else-to-from w ↦ moved_between bs from to c.index_mut.result.now c.insert.new.self c.args.item c.requires.from c.requires.to c.index_mut.ensures.value c.in_ok-insert.ensures.items o
          (elim w.else-to-from.branch as (λ _. to.0 ≡ from.0 → from.1 < to.1) [
            | else-to-from-via-then-to-from+else-to-from-2 v ↦ λ same. let later = v.if-to-from-2.false in omega (arith, later)
            | else-to-from-via-else-to-from v ↦ λ same. let other = v.if-to-from.false in absurd (omega (arith, other, same))
          ]) w.offset-is
    ] in
    c.take.ensures.items ∙ done
