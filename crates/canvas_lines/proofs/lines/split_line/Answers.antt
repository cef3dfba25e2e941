use Rattle.std.proofs.Common.{◌∷◌, List, ℕ, take, ap, ◌∙◌, arith}
use Rattle.std.proofs.lemmas.Bool.Decides.{nat_tests}
use Rattle.canvas_lines.specs.Lines.{lines_of}
use Rattle.canvas_lines.proofs.Splitting.{line_at, last_line, rest_of, none_left}
use Rattle.canvas_lines.proofs.lines.split_line.Goals as goal

pub returns-then-byte-eq10-clause-some : goal.returns-then-byte-eq10-clause-some
returns-then-byte-eq10-clause-some c = line_at _ c.loop-at.at (omega arith) c.if-byte-eq10.true c.loop-at.invariant ∙ ap (λ r. take c.loop-at.at c.args.rest.now ∷ lines_of r) (rest_of c.args.rest.now c.loop-at.at)

pub returns-clause-some : goal.returns-clause-some
returns-clause-some c = last_line _ (let e = c.is_empty.ensures in let f = c.if-is_empty.false in grind (arith, nat_tests)) (λ k lt. c.loop-at.invariant k (omega arith)) ∙ ap (λ (r : List ℕ). c.args.rest.now ∷ lines_of r) (none_left c.args.rest.now)
