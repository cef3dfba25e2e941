use Rattle.std.proofs.Common.{◌≡◌, ℕ, List, ◌++◌, ap, subst, ◌∙◌, append-nil}
use Rattle.std.proofs.lemmas.Result.{IfErr-weaker, on_ok_weaker}
use Rattle.tungstenite.specs.Connection.{write_step}
use Rattle.tungstenite.specs.Content.{binary}
use Rattle.tungstenite.specs.Socket.{Writes}
use Rattle.tungstenite.specs.declared.error.Error.{Error}
use Rattle.canvas_nodes.specs.Answers.{refusal_alone}
use Rattle.canvas_sockets.specs.Served.{RefusesText}
use Rattle.canvas_sockets.specs.Turned.{StopsPuttingAnswer}
use Rattle.canvas_sockets.proofs.Putting.{puts_one, refuses_one}
use Rattle.canvas_sockets.proofs.turning.put_no.Goals as goal

pub returns-clause-puts : goal.returns-clause-puts
returns-clause-puts g c =
    let text = c.no_text.result.now in
    let alone : text ++ c.new-nothing.result ≡ text = ap (λ (l : List ℕ). text ++ l) c.new-nothing.ensures ∙ append-nil text in
    on_ok_weaker c.put_bytes.result
    (λ h. puts_one g.S.Write.contents c.args.socket.now c.put_bytes.new.socket text (refusal_alone c.args.reason) (c.no_text.ensures, tt)
    (subst (λ (l : List ℕ). Writes g.S.Write.contents c.args.socket.now c.put_bytes.new.socket (write_step c.args.socket.now.conn (binary l))) alone h))
    c.put_bytes.ensures.writes

pub returns-clause-stops : goal.returns-clause-stops
returns-clause-stops g c =
    let text = c.no_text.result.now in
    let alone : text ++ c.new-nothing.result ≡ text = ap (λ (l : List ℕ). text ++ l) c.new-nothing.ensures ∙ append-nil text in
    IfErr-weaker c.put_bytes.result (λ (e : Error). RefusesText g.S.Write.contents c.args.socket.now (text ++ c.new-nothing.result) e c.put_bytes.new.socket)
    (λ (e : Error). StopsPuttingAnswer g.S.Write.contents c.args.socket.now (refusal_alone c.args.reason) e c.put_bytes.new.socket)
    (λ e h. refuses_one g.S.Write.contents c.args.socket.now c.put_bytes.new.socket text (refusal_alone c.args.reason) e (c.no_text.ensures, tt)
    (subst (λ (l : List ℕ). RefusesText g.S.Write.contents c.args.socket.now l e c.put_bytes.new.socket) alone h))
    c.put_bytes.ensures.refuses
