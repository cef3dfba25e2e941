use Rattle.std.proofs.Common.{◌≡◌, ◌+◌, ◌≤◌, ℕ, List, [], length, ap, ◌∙◌, arith, append-nil, subst, length-drop}
use Rattle.httparse.specs.Grammar.{HasNoSection, print_section}
use Rattle.etcd_gateway.proofs.BodyLemmas.{last_is, no_last}
use Rattle.etcd_gateway.proofs.chunk.read_last.Goals as goal

pub returns-in-Ok-Complete-clause-some : goal.returns-in-Ok-Complete-clause-some
returns-in-Ok-Complete-clause-some c =
    let within = rw c.in-Ok-Complete.field-0-is at c.in-Ok-Complete.ensures.within in
    let whole = rw c.in-Ok-Complete.field-0-is at c.in-Ok-Complete.ensures.complete in
    let count : c.in-Ok-Complete.fields ≡ length (print_section whole.0 whole.1) = omega (arith, whole.2.len_is) in
    let long : c.args.line + c.in-Ok-Complete.fields ≤ length c.args.bytes.now = omega (arith, within.len_fits, length-drop c.args.line c.args.bytes.now, ap (λ (t : List ℕ). length t) c.split_at.ensures.back, c.requires.within) in
    (long, last_is c.args.bytes.now c.split_at.result.1.now c.args.line c.in-Ok-Complete.fields c.requires.line.0 whole.0 whole.1 c.requires.line.1 c.split_at.ensures.back whole.2.reads count)

pub returns-in-Ok-Partial-2-clause-none : goal.returns-in-Ok-Partial-2-clause-none
returns-in-Ok-Partial-2-clause-none c =
    let never = rw c.in-Ok-Partial.field-0-is at c.in-Ok-Partial.ensures.partial in
    no_last c.args.bytes.now c.args.line c.requires.line.0 c.requires.line.1 (subst HasNoSection c.split_at.ensures.back never)

pub returns-in-Err : goal.returns-in-Err
returns-in-Err c = record {
  some = tt;
  none = tt;
  not_http = λ e. no_last c.args.bytes.now c.args.line c.requires.line.0 c.requires.line.1
      (λ fields end rest reads. c.in-Err.ensures.invalid (c.fields_error.ensures e) [] fields end rest (reads.0, append-nil c.split_at.result.1.now ∙ c.split_at.ensures.back ∙ reads.1));
}
