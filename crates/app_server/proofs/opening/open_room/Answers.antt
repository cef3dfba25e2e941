use Rattle.app_server.proofs.opening.open_room.Goals as goal

pub returns-in-Err-clause-faults : goal.returns-in-Err-clause-faults
returns-in-Err-clause-faults c = c.in-Err.ensures c.args.workers
