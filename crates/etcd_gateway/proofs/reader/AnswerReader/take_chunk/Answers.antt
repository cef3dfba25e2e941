use Rattle.std.proofs.Common.{arith, ◌≡◌, take, length-take}
use Rattle.etcd_gateway.proofs.BodyLemmas.{last_some, more_bytes}
use Rattle.etcd_gateway.proofs.reader.AnswerReader.take_chunk.Goals as goal

pub returns-in_ok-extend_from_slice-in-Some-Bytes-clause-read : goal.returns-in_ok-extend_from_slice-in-Some-Bytes-clause-read
returns-in_ok-extend_from_slice-in-Some-Bytes-clause-read c =
    let begins = rw (c.in-Some-Bytes.is, c.in-Some-Bytes.field-0-is) at c.in_ok-data.ensures.some in
    λ past so_far. more_bytes c.args.self.now.stage c.args.self.now.status c.args.self.now.body.items c.extend_from_slice.new.self.items past c.args.bytes.now
    c.in-Some-Bytes.data c.in-Some-Bytes.length c.requires begins c.in_ok-extend_from_slice-in-Some-Bytes.ensures.items so_far

pub returns-in-Some-Last-clause-nothing : goal.returns-in-Some-Last-clause-nothing
returns-in-Some-Last-clause-nothing c = λ e.
    (let begins = rw (c.in-Some-Last.is, c.in-Some-Last.field-0-is) at c.in_ok-data.ensures.some in
    let nothing : c.in-Some-Last.length ≡ 0 = cc in
    absurd (omega (arith, last_some (take c.in-Some-Last.length c.args.bytes.now) begins.1, length-take c.in-Some-Last.length c.args.bytes.now)))
