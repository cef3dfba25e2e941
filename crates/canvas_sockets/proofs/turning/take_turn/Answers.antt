use Rattle.std.proofs.Common.{◌≡◌, ℕ, ◌+◌, ◌<◌, suc, ap, subst, ◌∙◌, arith}
use Rattle.std.proofs.lemmas.Result.{err_from_is_err_and}
use Rattle.canvas_sockets.specs.Turned.{Takes}
use Rattle.canvas_sockets.specs.declared.turning.Taken.{Taken}
use Rattle.canvas_sockets.proofs.Putting.{one_more}
use Rattle.canvas_sockets.proofs.turning.take_turn.Goals as goal

pub returns-in_err-take_next-clause-stops : goal.returns-in_err-take_next-clause-stops
returns-in_err-take_next-clause-stops g c =
    let p = err_from_is_err_and c.from_residual.result c.from_residual.ensures.1 in
    let same = c.waiting.ensures ∙ ap g.O.Backlog.waits c.get_ref.ensures in
    let has = subst (λ (n : ℕ). n < c.args.room) same c.if-waiting-room.false in
    rw (p.1, p.2) (c.loop-count._count, c.loop-count.replier, c.loop-count.line, c.loop-count-test.true, c.loop-count.invariant, has, c.in_err-take_next.ensures.stops)

pub returns-in-Nothing-clause-turns : goal.returns-in-Nothing-clause-turns
returns-in-Nothing-clause-turns g c =
    let same = c.waiting.ensures ∙ ap g.O.Backlog.waits c.get_ref.ensures in
    let has = subst (λ (n : ℕ). n < c.args.room) same c.if-waiting-room.false in
    let takes = subst (λ (t : Taken). Takes g.A.Replier.replies g.I.Read.remaining g.O.Write.contents t c.loop-count.replier c.loop-count.line c.take_next.new.replier c.take_next.new.line) c.in-Nothing.is c.in_ok-take_next.ensures.takes in
    (c.loop-count._count, c.loop-count.replier, c.loop-count.line, c.loop-count-test.true, c.loop-count.invariant, has, takes)

pub returns-in-Close-clause-turns : goal.returns-in-Close-clause-turns
returns-in-Close-clause-turns g c =
    let same = c.waiting.ensures ∙ ap g.O.Backlog.waits c.get_ref.ensures in
    let has = subst (λ (n : ℕ). n < c.args.room) same c.if-waiting-room.false in
    let takes = subst (λ (t : Taken). Takes g.A.Replier.replies g.I.Read.remaining g.O.Write.contents t c.loop-count.replier c.loop-count.line c.take_next.new.replier c.take_next.new.line) c.in-Close.is c.in_ok-take_next.ensures.takes in
    (c.loop-count._count, c.loop-count.replier, c.loop-count.line, c.loop-count-test.true, c.loop-count.invariant, has, takes)

pub loop-count-preserved : goal.loop-count-preserved
loop-count-preserved g c =
    let next : c.loop-count._count + 1 ≡ suc c.loop-count._count = omega arith in
    let same = c.waiting.ensures ∙ ap g.O.Backlog.waits c.get_ref.ensures in
    let has = subst (λ (n : ℕ). n < c.args.room) same c.if-waiting-room.false in
    let takes = subst (λ (t : Taken). Takes g.A.Replier.replies g.I.Read.remaining g.O.Write.contents t c.loop-count.replier c.loop-count.line c.take_next.new.replier c.take_next.new.line) c.in-Message.is c.in_ok-take_next.ensures.takes in
    one_more g.A.Replier.replies g.I.Read.remaining g.O.Write.contents g.O.Backlog.waits c.args.room c.loop-count._count (c.loop-count._count + 1) c.args.replier.now c.args.line.now c.loop-count.replier c.loop-count.line
    c.take_next.new.replier c.take_next.new.line next c.loop-count.invariant has takes
