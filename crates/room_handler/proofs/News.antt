-- What a board tells.
use Rattle.std.proofs.Common.{◌≡◌, ℕ, List, ◌∷◌, [], ◌++◌, true, Option, Some, None, ap, ◌∙◌}
use Rattle.canvas_model.specs.State.{joined}
use Rattle.canvas_model.specs.Log.{Entry}
use Rattle.canvas_model.specs.Messages.{Message, Idle}
use Rattle.canvas_judge.specs.declared.message.DocCopy.{DocCopy}
use Rattle.canvas_judge.specs.Seen.{seen_copy}
use Rattle.canvas_server.specs.Served.{Served, IsCopyFor, tail_of}
use Rattle.room_handler.specs.News.{copies, tells, tells_or_copies}
use Rattle.room_handler.specs.Table.{TellsNews}

-- the board's tail is its news
pub told_entries : (b : Served) (client from : ℕ) (es : List Entry) (answer : List Message) → joined b.state client ≡ true → Some es ≡ tail_of b from 64 → answer ≡ tells from es ++ Idle ∷ [] → TellsNews b client from answer
told_entries b client from es answer there is said = (there, said ∙ ap (λ (t : Option (List Entry)). tells_or_copies b client from t ++ Idle ∷ []) is)

-- where it has no tail, the board's copy is
pub told_copy : {A : Type 0} (b : Served) (client from : ℕ) (copy : DocCopy A) (answer : List Message) → joined b.state client ≡ true → None ≡ tail_of b from 64 → IsCopyFor b client copy → answer ≡ seen_copy copy ∷ Idle ∷ [] → TellsNews b client from answer
told_copy b client from copy answer there none is said =
    let v = is.version in
    let d = is.done_is in
    let doc = is.doc in
    let same : seen_copy copy ≡ copies b client = cc (v, d, doc) in
    (there, said ∙ ap (λ (m : Message). m ∷ Idle ∷ []) same ∙ ap (λ (t : Option (List Entry)). tells_or_copies b client from t ++ Idle ∷ []) none)
