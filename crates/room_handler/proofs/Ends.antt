-- What is answered by the table is an answer.
use Rattle.std.proofs.Common.{◌≡◌, ℕ, ◌+◌, List, [], ◌∷◌, ◌++◌, Option, Some, None, Result, Ok, Err, IfOk, sym, subst, ⊎_elim}
use Rattle.canvas_model.specs.Log.{What, Join, Edit, Entry}
use Rattle.canvas_model.specs.Verdict.{Outcome}
use Rattle.canvas_model.specs.Messages.{Message, Idle}
use Rattle.canvas_judge.specs.declared.message.NoReason.{NoReason}
use Rattle.canvas_judge.specs.declared.message.NoReason.TheVariants as no
use Rattle.canvas_server.specs.Asked.{Asked}
use Rattle.canvas_server.specs.Served.{Served, tail_of}
use Rattle.canvas_board.specs.Marks.{Mark, Opening}
use Rattle.canvas_desk.specs.declared.faults.Refusal.TheVariants.{Stranger, Repeat, Gap, Full}
use Rattle.canvas_desk.specs.declared.faults.SubmitError.{SubmitError}
use Rattle.canvas_desk.specs.declared.faults.SubmitError.TheVariants.{Refused, NotKept, Owed}
use Rattle.canvas_nodes.specs.Answers.{IsAnswer, EndsAnswer, refusal_alone}
use Rattle.room_handler.specs.News.{tells, tells_or_copies}
use Rattle.room_handler.specs.Table.{AnswersAsk, AnswersRequest, IsJudgedSince, IsToldAs, SaysOf, TellsNews, TellsRefusal, answer_of}

told_ends : (w : What) (outcome : Outcome) (m : Message) → IsToldAs w outcome m → EndsAnswer m
told_ends Join outcome m told = subst EndsAnswer (sym told.2) tt
told_ends (Edit change) outcome m told = subst EndsAnswer (sym told) tt

refused_ends : (e : SubmitError) → EndsAnswer (answer_of e)
refused_ends (Refused Stranger) = tt
refused_ends (Refused (Repeat done)) = tt
refused_ends (Refused (Gap done)) = tt
refused_ends (Refused Full) = tt
refused_ends (NotKept error) = tt
refused_ends (Owed v) = tt

pub says_ends : (o : Opening) (q : Asked) (old : List Mark) (m : Message) (new : List Mark) → SaysOf o q old m new → EndsAnswer m
says_ends o q old m new says = ⊎_elim
    (λ (j : IsJudgedSince q old m new). told_ends j.entry.what j.entry.outcome m j.told)
    (λ (r : TellsRefusal o q old m new). subst EndsAnswer (sym r.told) (refused_ends r.error))
    says

pub request_whole : (o : Opening) (q : Asked) (old : List Mark) (answer : List Message) (new : List Mark) → AnswersRequest o q old answer new → IsAnswer answer
request_whole o q old answer new (m, is, says) = subst IsAnswer (sym is) (says_ends o q old m new says)

entries_whole : (from : ℕ) (es : List Entry) → IsAnswer (tells from es ++ Idle ∷ [])
entries_whole from [] = tt
entries_whole from (e ∷ []) = ((λ end. end), tt)
entries_whole from (e ∷ d ∷ es) = ((λ end. end), entries_whole (from + 1) (d ∷ es))

news_whole : (b : Served) (client from : ℕ) (t : Option (List Entry)) → IsAnswer (tells_or_copies b client from t ++ Idle ∷ [])
news_whole b client from None = ((λ end. end), tt)
news_whole b client from (Some es) = entries_whole from es

refused_whole : (reason : NoReason) (answer : List Message) → answer ≡ refusal_alone reason → IsAnswer answer
refused_whole reason answer is = subst IsAnswer (sym is) tt

pub ask_whole : (b : Served) (client from : ℕ) (answer : List Message) → AnswersAsk b client from answer → IsAnswer answer
ask_whole b client from answer h = ⊎_elim
    (λ (t : TellsNews b client from answer). subst IsAnswer (sym t.1) (news_whole b client from (tail_of b from 64)))
    (λ s. refused_whole no.Stranger answer s.1)
    h

-- the same for an answer to an Ask that may have failed
pub ask_ends : {V E : Type 0} (seen : V → List Message) (b : Served) (client from : ℕ) (r : Result V E) → IfOk r (λ v. AnswersAsk b client from (seen v)) → IfOk r (λ v. IsAnswer (seen v))
ask_ends seen b client from (Ok v) h = ask_whole b client from (seen v) h
ask_ends seen b client from (Err e) h = tt
