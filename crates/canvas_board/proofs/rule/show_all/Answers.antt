use Rattle.std.proofs.Common.{List, subst, sym}
use mathlib.Core.List.{IsPrefix}
use Rattle.canvas_board.specs.Marks.{Mark}
use Rattle.canvas_board.proofs.Rises.{rises}
use Rattle.canvas_board.proofs.rule.show_all.Goals as goal

pub publish_as-requires : goal.publish_as-requires
publish_as-requires g c next is = rises _ _ _ next (subst (λ (l : List Mark). IsPrefix c.args.writer.desk.shown.value l) (sym is) c.requires)
