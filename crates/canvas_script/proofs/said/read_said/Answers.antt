use Rattle.std.proofs.Common.{inl, inr}
use Rattle.canvas_script.specs.Lines.{SpellsLine, SpellsLong}
use Rattle.canvas_edit_lines.proofs.Pairs.{err_of}
use Rattle.canvas_script.proofs.said.read_said.Goals as goal

pub returns-clause-err : goal.returns-clause-err
returns-clause-err c =
    err_of c.read_long.result (SpellsLong c.args.line.now) (SpellsLine c.args.line.now)
    (λ said spelled. elim spelled [ inl whole ↦ absurd (c.in_default.ensures.none whole.0 whole.2) | inr long ↦ (said, long) ]) c.read_long.ensures.err
