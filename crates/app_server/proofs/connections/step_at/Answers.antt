use Rattle.app_server.proofs.connections.step_at.Goals as goal

-- the step was taken at this connection's place
pub returns : goal.returns
returns g c = rw c.own_place.ensures (rw c.go_to_place.ensures at c.step-step.ensures)
