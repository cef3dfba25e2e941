use Rattle.std.proofs.Common.{rules}
use Rattle.httparse.specs.Spans.{IsRequestOf}
use Rattle.net_http.proofs.FieldLemmas.{few_fields}
use Rattle.net_http.proofs.head.read_head.Goals as goal

pub returns-in-Ok-Complete-clause-some : goal.returns-in-Ok-Complete-clause-some
returns-in-Ok-Complete-clause-some c =
    let found : IsRequestOf c.args.bytes.now c.parse_request.new.headers c.in-Ok-Complete.head = rw c.in-Ok-Complete.field-0-is at c.in-Ok-Complete.ensures.complete in
    let few = few_fields c.args.bytes.now c.parse_request.new.headers c.in-Ok-Complete.head.headers 64 found.0.fields found.1.fields (search rules) in
    (found.0, ((_, found.1.reads), few), c.request_at.ensures found.0 found.1)
