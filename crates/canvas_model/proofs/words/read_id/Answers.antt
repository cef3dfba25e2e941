use Rattle.canvas_model.proofs.Written.{id_parts}
use Rattle.canvas_model.proofs.words.read_id.Goals as goal

pub returns-in_err-client-2-clause-none : goal.returns-in_err-client-2-clause-none
returns-in_err-client-2-clause-none c = rw c.from_residual-in_err-client-2.ensures (λ id small is. c.in_err-client-2.ensures.none id.client small.0 (id_parts c.args.bytes.now _ _ id c.in_ok-client.ensures.parts small is).0)

pub returns-in_err-counter-clause-none : goal.returns-in_err-counter-clause-none
returns-in_err-counter-clause-none c = rw c.from_residual-in_err-counter.ensures (λ id small is. c.in_err-counter.ensures.none id.counter small.1 (id_parts c.args.bytes.now _ _ id c.in_ok-client.ensures.parts small is).1)
