use Rattle.std.proofs.Common.{inl}
use Rattle.lugcurrant.proofs.running.run.Goals as goal

pub returns-in-Ok : goal.returns-in-Ok
returns-in-Ok g c = inl (c.in-Ok.asked, c.carry_out.ensures)
