use Rattle.std.proofs.Common.{arith, sym, ◌∙◌}
use Rattle.net_http.proofs.Origins.{host_behind, no_end, no_scheme, scheme_before}
use Rattle.net_http.proofs.origin.is_scheme_and_host.Goals as goal

pub returns-then-end-gt0 : goal.returns-then-end-gt0
returns-then-end-gt0 c = (
  scheme_before c.args.text.now c.in-Some.end c.is_host_behind.result (sym c.in-Some.is ∙ c.scheme_end.ensures) c.if-end-gt0.true c.is_host_behind.ensures,
  host_behind c.args.text.now c.in-Some.end c.is_host_behind.result (sym c.in-Some.is ∙ c.scheme_end.ensures) c.is_host_behind.ensures,
)

pub returns-else-end-gt0 : goal.returns-else-end-gt0
returns-else-end-gt0 c = (
  (λ some. absurd (grind arith)),
  λ is. absurd (no_scheme c.args.text.now c.in-Some.end (sym c.in-Some.is ∙ c.scheme_end.ensures) (λ some. grind arith) is),
)

pub returns-in-None : goal.returns-in-None
returns-in-None c = ((λ some. cc), λ is. absurd (no_end c.args.text.now (sym c.in-None.is ∙ c.scheme_end.ensures) is))
