use Rattle.std.proofs.Common.{◌≡◌, ◌+◌, refl, subst, arith, suc}
use Rattle.std.proofs.lemmas.Result.{err_from_is_err_and}
use mathlib.Core.Logic.{inl, inr}
use Rattle.canvas_sockets.specs.Served.{Turns}
use Rattle.canvas_sockets.proofs.Sending.{one_turn}
use Rattle.canvas_sockets.proofs.serving.serve_one.Goals as goal

pub returns-then-not-branch-clause-serves : goal.returns-then-not-branch-clause-serves
returns-then-not-branch-clause-serves g c = (
  c.loop-turn._turn,
  c.loop-turn.answerer,
  c.loop-turn.socket,
  c.loop-turn.invariant,
  inr (c.loop-turn-test.true, subst (λ on. Turns g.A.Answerer.gives g.S.Read.remaining g.S.Write.contents on c.loop-turn.answerer c.loop-turn.socket c.serve_next.new.answerer c.serve_next.new.socket) c.if-not-branch.true c.in_ok-serve_next.ensures.turns),
)

pub returns-in_err-serve_next-clause-stops : goal.returns-in_err-serve_next-clause-stops
returns-in_err-serve_next-clause-stops g c =
    let p = err_from_is_err_and c.from_residual.result c.from_residual.ensures.1 in
    rw (p.1, p.2) (c.loop-turn._turn, c.loop-turn.answerer, c.loop-turn.socket, c.loop-turn-test.true, c.loop-turn.invariant, c.in_err-serve_next.ensures.stops)

pub loop-turn-preserved : goal.loop-turn-preserved
loop-turn-preserved g c =
    let next : c.loop-turn._turn + 1 ≡ suc c.loop-turn._turn = omega arith in
    one_turn g.A.Answerer.gives g.S.Read.remaining g.S.Write.contents c.loop-turn._turn (c.loop-turn._turn + 1) c.args.answerer.now c.args.socket.now c.loop-turn.answerer c.loop-turn.socket c.serve_next.new.answerer c.serve_next.new.socket next c.loop-turn.invariant
    (subst (λ on. Turns g.A.Answerer.gives g.S.Read.remaining g.S.Write.contents on c.loop-turn.answerer c.loop-turn.socket c.serve_next.new.answerer c.serve_next.new.socket) c.if-not-branch.false c.in_ok-serve_next.ensures.turns)

pub returns-clause-serves : goal.returns-clause-serves
returns-clause-serves g c =
    let last : c.loop-turn._turn ≡ 4294967295 = omega arith in
    (c.loop-turn._turn, c.loop-turn.answerer, c.loop-turn.socket, c.loop-turn.invariant, inl (last, refl, refl))
