use Rattle.std.proofs.Common.{◌≡◌, ◌-◌, ◌<◌, ◌≤◌}
use Rattle.std.specs.List.{remove}
use Rattle.canvas_blocks.specs.Blocks.{flat, index_at, index_of, sizes, IsIn, NoneEmpty}
use Rattle.canvas_blocks.proofs.moves.gap_down.Given as goal

abbrev pub invariant-loop-last : goal.invariant-loop-last
invariant-loop-last g l =
    IsIn l.fn.blocks.items l.at.0 l.at.1
    × (remove (flat l.blocks.items) (index_of l.fn.blocks.items l.at.0 l.at.1) ≡ remove (flat l.fn.blocks.items) (index_of l.fn.blocks.items l.fn.from.0 l.fn.from.1))
    × (sizes l.blocks.items ≡ sizes l.fn.blocks.items) × NoneEmpty l.blocks.items
    × (index_of l.fn.blocks.items l.at.0 l.at.1 ≤ index_of l.fn.blocks.items l.fn.from.0 l.fn.from.1)
    × (index_of l.fn.blocks.items l.at.0 l.at.1 < index_of l.fn.blocks.items l.fn.from.0 l.fn.from.1 → index_at l.fn.blocks.items l.to ≤ index_of l.fn.blocks.items l.at.0 l.at.1)

abbrev pub decreases-loop-last : goal.decreases-loop-last
decreases-loop-last g l = index_of l.fn.blocks.items l.at.0 l.at.1 - index_at l.fn.blocks.items l.to
