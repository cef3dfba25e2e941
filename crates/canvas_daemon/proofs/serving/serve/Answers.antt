use Rattle.std.proofs.Common.{◌≡◌, ◌⊎◌, ℕ, List, Option, inl, inr, subst}
use Rattle.std.specs.Prelude.{OnOk}
use Rattle.std.proofs.lemmas.Result.{IfErr-weaker, on_ok_weaker}
use Rattle.canvas_daemon.specs.Served.{BeginsServing, BeginsServingAt, WritesServed}
use Rattle.canvas_daemon.proofs.serving.serve.Goals as goal

some_version : (version port : ℕ) (before after : Option (List ℕ)) → BeginsServingAt version port before after → BeginsServing port before after
some_version version port before after (inl none) = inl none
some_version version port before after (inr first) = inr (version, first)

pub returns-clause-told : goal.returns-clause-told
returns-clause-told g c =
    subst (λ (count : ℕ). OnOk c.serve_room.result (WritesServed c.args.port count (g.W.Write.contents c.args.output.now) (g.W.Write.contents c.serve_room.new.output))) c.in_ok-room.ensures.seats
    (on_ok_weaker c.serve_room.result (λ served. (c.in_ok-room.room.opening.version, served)) c.serve_room.ensures.told)

pub returns-clause-begun : goal.returns-clause-begun
returns-clause-begun g c = IfErr-weaker c.serve_room.result _ _
    (λ fault begun other. some_version c.in_ok-room.room.opening.version c.args.port (g.W.Write.contents c.args.output.now) (g.W.Write.contents c.serve_room.new.output) (begun other))
    c.serve_room.ensures.begun
