use Rattle.std.proofs.Common.{ℕ, ◌+◌, ◌-◌}
use Rattle.std.specs.FinMap as map
use Rattle.canvas_model.specs.Ids.{root}
use Rattle.canvas_model.specs.Chain.{Below}
use Rattle.canvas_model.specs.Depth.{LiesBelow}
use Rattle.canvas_doc.proofs.Climbed.{Reaches}
use Rattle.canvas_doc.proofs.Doc.depth.Given as goal

abbrev pub invariant-loop-steps : goal.invariant-loop-steps
invariant-loop-steps g l = record {
  from_here : (n : ℕ) → LiesBelow l.self n l.at root → LiesBelow l.self (l.steps + n) l.fn.id root;
  reached : Below l.self l.fn.id root → Reaches l.self (map.len l.self - l.steps) l.at root;
}
