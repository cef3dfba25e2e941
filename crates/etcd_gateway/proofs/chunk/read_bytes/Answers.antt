use Rattle.std.proofs.Common.{◌+◌, ◌<◌, ◌≤◌, length, drop, take, sym, ap, ◌∙◌, arith, codes}
use Rattle.std.proofs.lemmas.Bool.{true≢false}
use Rattle.std.proofs.lemmas.Bool.Decides.{Decides-eqb}
use Rattle.std.proofs.lemmas.Slice.Eq.{starts_is}
use Rattle.etcd_gateway.proofs.BodyLemmas.{no_end, piece_is, too_short}
use Rattle.etcd_gateway.proofs.chunk.read_bytes.Goals as goal

pub returns-then-behind-size-clause-none : goal.returns-then-behind-size-clause-none
returns-then-behind-size-clause-none c =
    let short : length c.args.bytes.now < c.args.line + c.args.size + 2 = omega arith in
    too_short c.args.bytes.now c.args.line c.args.size c.requires.line.0 c.requires.line.1 c.requires.more short

pub returns-then-end-lt2-clause-none : goal.returns-then-end-lt2-clause-none
returns-then-end-lt2-clause-none c =
    let short : length c.args.bytes.now < c.args.line + c.args.size + 2 = omega arith in
    too_short c.args.bytes.now c.args.line c.args.size c.requires.line.0 c.requires.line.1 c.requires.more short

pub returns-then-starts_with-clause-some : goal.returns-then-starts_with-clause-some
returns-then-starts_with-clause-some c =
    let long : c.args.line + c.args.size + 2 ≤ length c.args.bytes.now = omega arith in
    let begins = starts_is Decides-eqb c.split_at-2.result.1.now (codes "\r\n") c.starts_with.result c.starts_with.ensures.value in
    let is = piece_is c.args.bytes.now c.split_at-2.result.0.now c.split_at-2.result.1.now c.args.line c.args.size c.requires.line.0 c.requires.line.1 c.requires.more long
    (c.split_at-2.ensures.front ∙ ap (take c.args.size) c.split_at.ensures.back) (c.split_at-2.ensures.back ∙ ap (drop c.args.size) c.split_at.ensures.back) (begins.0 c.if-starts_with.true) in
    (long, is.0, is.1, is.2, is.3)

pub returns-else-starts_with-clause-not_http : goal.returns-else-starts_with-clause-not_http
returns-else-starts_with-clause-not_http c = λ _.
    no_end c.args.bytes.now c.args.line c.args.size c.requires.line.0 c.requires.line.1 c.requires.more
    (λ rest e. true≢false (sym ((starts_is Decides-eqb c.split_at-2.result.1.now (codes "\r\n") c.starts_with.result c.starts_with.ensures.value).1 rest (c.split_at-2.ensures.back ∙ ap (drop c.args.size) c.split_at.ensures.back ∙ e)) ∙ c.if-starts_with.false))
