use Rattle.std.proofs.Common.{refl, ◌∙◌}
use mathlib.Core.Logic.{inl, inr}
use Rattle.canvas_turns.proofs.connection.Connection.turn.Goals as goal

pub returns-in-Goes : goal.returns-in-Goes
returns-in-Goes g c = rw c.requires (c.take_step.new.line, c.in-Goes.ensures, inl refl)

pub returns-in-Rests : goal.returns-in-Rests
returns-in-Rests g c = rw c.requires (c.take_step.new.line, c.in-Rests.ensures, inl refl)

pub returns-in-Renews : goal.returns-in-Renews
returns-in-Renews g c = rw (c.requires, c.renewed.ensures.ending ∙ c.requires) (c.take_step.new.line, c.in-Renews.ensures.0, inr (inl c.renewed.ensures.line))

pub returns-in-Ok : goal.returns-in-Ok
returns-in-Ok g c = rw c.requires (c.take_step.new.line, c.in-Pings.ensures, inr (inr c.in-Ok.ensures.pings))

pub returns-in-Err : goal.returns-in-Err
returns-in-Err g c = rw c.requires (inr (inr (c.in-Err.error, inr (inr (inr (inr (c.take_step.new.line, c.in-Pings.ensures)))), c.end_of.ensures)))
