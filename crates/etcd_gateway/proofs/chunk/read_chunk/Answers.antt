use Rattle.std.proofs.Common.{◌∙◌, append-nil, []}
use Rattle.etcd_gateway.proofs.BodyLemmas.{no_line}
use Rattle.etcd_gateway.proofs.chunk.read_chunk.Goals as goal

pub returns-in-Err-clause-not_http : goal.returns-in-Err-clause-not_http
returns-in-Err-clause-not_http c = λ _. no_line c.args.bytes.now (λ l rest reads. c.in-Err.ensures.invalid [] l rest (reads.0, append-nil c.args.bytes.now ∙ reads.1))
