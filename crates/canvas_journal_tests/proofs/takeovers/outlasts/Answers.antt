use Rattle.canvas_journal_tests.proofs.takeovers.outlasts.Goals as goal

pub is_empty-requires : goal.is_empty-requires
is_empty-requires c honest = (_, (c.in_ok-shelf.ensures.fresh honest).disk)
