use Rattle.canvas_board.proofs.Rises.{admits}
use Rattle.canvas_board.proofs.rule.reader_of.Goals as goal

pub reader-requires : goal.reader-requires
reader-requires g c = admits
