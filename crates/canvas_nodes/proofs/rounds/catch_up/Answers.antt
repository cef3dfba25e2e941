use Rattle.std.proofs.Common.{suc, arith}
use Rattle.std.proofs.lemmas.Result.{err_from_is_err_and}
use Rattle.canvas_nodes.proofs.Going.{further}
use Rattle.canvas_nodes.proofs.Hearing.{id_stays}
use Rattle.canvas_nodes.proofs.rounds.catch_up.Goals as goal

pub returns-in_err-ask_next-clause-breaks : goal.returns-in_err-ask_next-clause-breaks
returns-in_err-ask_next-clause-breaks g c =
    let p = err_from_is_err_and c.from_residual.result c.from_residual.ensures.1 in
    rw (p.1, p.2)
    (c.asks.invariant.2.0, c.asks.client, c.asks.link, c.asks.invariant.2.1, c.in_err-ask_next.ensures.breaks)

pub returns-then-version-clause-hears : goal.returns-then-version-clause-hears
returns-then-version-clause-hears g c =
    (c.asks.invariant.2.0, c.asks.client, c.asks.link, c.asks.invariant.2.1, c.in_ok-ask_next.ensures.hears, omega arith)

pub asks-preserved : goal.asks-preserved
asks-preserved g c = (
  further c.args.client.now c.asks.client c.ask_next.new.client c.asks.invariant.0 c.in_ok-ask_next.ensures.goes_on,
  id_stays c.asks.client c.ask_next.new.client c.in_ok-ask_next.ensures.goes_on c.asks.invariant.1,
  (suc c.asks.invariant.2.0, (c.asks.client, c.asks.link, c.asks.invariant.2.1, c.in_ok-ask_next.ensures.hears, omega arith)),
)
