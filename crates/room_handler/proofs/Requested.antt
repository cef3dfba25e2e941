-- What is answered a message that makes a request, and one that neither makes one nor asks.
use Rattle.std.proofs.Common.{◌≡◌, ℕ, List, Result, Ok, Err, Some, None, IfOk, refl, subst}
use Rattle.canvas_model.specs.Log.{Edit, Join}
use Rattle.canvas_model.specs.Messages.{Message}
use Rattle.canvas_model.specs.Messages as messages
use Rattle.canvas_judge.specs.declared.message.Message.{Message as Stored}
use Rattle.canvas_judge.specs.declared.message.Message.TheVariants as stored
use Rattle.canvas_judge.specs.declared.message.NoReason.TheVariants as no
use Rattle.canvas_judge.specs.Seen.{seen_message}
use Rattle.canvas_server.specs.Asked.{Asked, asked_by}
use Rattle.canvas_board.specs.Marks.{Mark, Opening}
use Rattle.canvas_nodes.specs.Answers.{IsAnswer, refusal_alone}
use Rattle.room_handler.specs.Table.{AnswersRequest, IsAnswerToMessage}
use Rattle.room_handler.proofs.Ends.{request_whole}

-- the answer to its request answers the message
requested : (o : Opening) (old : List Mark) (m : Message) (q : Asked) (answer : List Message) (new : List Mark) → Some q ≡ asked_by m → AnswersRequest o q old answer new → IsAnswerToMessage o old m answer new
requested o old messages.Join q answer new is h =
    let same : q ≡ record { author = 0; seq = 0; what = Join } = cc is in
    subst (λ (x : Asked). AnswersRequest o x old answer new) same h
requested o old (messages.Edit client seq change) q answer new is h =
    let same : q ≡ record { author = client; seq = seq; what = Edit change } = cc is in
    subst (λ (x : Asked). AnswersRequest o x old answer new) same h
requested o old (messages.Welcome client) q answer new is h = absurd (cc is)
requested o old (messages.Ask client version) q answer new is h = absurd (cc is)
requested o old (messages.Entry version entry) q answer new is h = absurd (cc is)
requested o old (messages.Copy version done doc) q answer new is h = absurd (cc is)
requested o old messages.Idle q answer new is h = absurd (cc is)
requested o old (messages.No reason) q answer new is h = absurd (cc is)

-- a stored message that neither makes a request nor asks is refused
unasked : {A : Type 0} (o : Opening) (old : List Mark) (m : Stored A) (answer : List Message) → None ≡ asked_by (seen_message m) → ((client version : ℕ) → m ≡ stored.Ask client version → ⊥) → answer ≡ refusal_alone no.NotRead
    → IsAnswerToMessage o old (seen_message m) answer old
unasked o old stored.Join answer is no_ask said = absurd (cc is)
unasked o old (stored.Edit client seq change) answer is no_ask said = absurd (cc is)
unasked o old (stored.Ask client version) answer is no_ask said = absurd (no_ask client version refl)
unasked o old (stored.Welcome client) answer is no_ask said = (said, refl)
unasked o old (stored.Entry version entry) answer is no_ask said = (said, refl)
unasked o old (stored.Copy copy) answer is no_ask said = (said, refl)
unasked o old stored.Idle answer is no_ask said = (said, refl)
unasked o old (stored.No reason) answer is no_ask said = (said, refl)

-- the same for an answer that may have failed
module _ {V E : Type 0} (seen : V → List Message) where
  pub request_answers : (o : Opening) (old : List Mark) (m : Message) (q : Asked) (new : List Mark) → Some q ≡ asked_by m → (r : Result V E) → IfOk r (λ v. AnswersRequest o q old (seen v) new) → IfOk r (λ v. IsAnswerToMessage o old m (seen v) new)
  request_answers o old m q new is (Ok v) h = requested o old m q (seen v) new is h
  request_answers o old m q new is (Err e) h = tt

  pub request_ends : (o : Opening) (old : List Mark) (q : Asked) (new : List Mark) (r : Result V E) → IfOk r (λ v. AnswersRequest o q old (seen v) new) → IfOk r (λ v. IsAnswer (seen v))
  request_ends o old q new (Ok v) h = request_whole o q old (seen v) new h
  request_ends o old q new (Err e) h = tt

  pub other_answers : {A : Type 0} (o : Opening) (old : List Mark) (m : Stored A) → None ≡ asked_by (seen_message m) → ((client version : ℕ) → m ≡ stored.Ask client version → ⊥) → (r : Result V E) → IfOk r (λ v. seen v ≡ refusal_alone no.NotRead)
      → IfOk r (λ v. IsAnswerToMessage o old (seen_message m) (seen v) old)
  other_answers o old m is no_ask (Ok v) h = unasked o old m (seen v) is no_ask h
  other_answers o old m is no_ask (Err e) h = tt
