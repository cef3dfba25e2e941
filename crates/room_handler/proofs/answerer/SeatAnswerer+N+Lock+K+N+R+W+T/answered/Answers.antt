use Rattle.std.proofs.Common.{◌∙◌, map, sym}
use Rattle.std.proofs.lemmas.Bool.{false≢true}
use Rattle.canvas_judge.specs.Seen.{seen_message}
use Rattle.room_handler.proofs.Limits.{table_given}
use Rattle.room_handler.proofs.answerer.SeatAnswerer+N+Lock+K+N+R+W+T.answered.Goals as goal

pub returns-clause-gives : goal.returns-clause-gives
returns-clause-gives g c =
    let o = g.N.RoomName.opening in
    let limit = g.T.Terms.limit c.self.inside.terms in
    rw (← c.self.view_is) (table_given o limit c.self.inside.seat c.answer.new.seat (λ v. map seen_message v.items) (seen_message c.args.message)
    (λ over. false≢true (sym c.if-is_over.false ∙ c.in_ok-is_over.ensures.1 over)) c.answer.ensures.sees c.answer.result c.answer.ensures.table)
