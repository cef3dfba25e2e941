use Rattle.std.proofs.Common.{refl}
use Rattle.canvas_lines.proofs.Spellings.{no_id_there}
use Rattle.canvas_lines.proofs.Unread.{idless}
use Rattle.canvas_lines.proofs.changes.cut_id.Goals as goal

pub returns-in_err-id-2-clause-err : goal.returns-in_err-id-2-clause-err
returns-in_err-id-2-clause-err c =
    idless c.args.rest.now c.from_residual-in_err-id-2.result _ c.from_residual-in_err-id-2.ensures.1 refl (no_id_there c.args.rest.now _ _ c.in_ok-id.ensures.ok c.in_err-id-2.ensures)
