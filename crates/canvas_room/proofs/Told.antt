-- What the desk answers, for a seat that has seen no more than the desk has published.
use Rattle.std.proofs.Common.{◌≡◌, ℕ, ◌+◌, ◌<◌, ◌≤◌, List, [], ◌∷◌, Bool, true, false, cond, not, Result, Ok, Err, IfOk, IfErr, inl, inr, refl, sym, subst, ◌∙◌, arith}
use Rattle.std.specs.Prelude.{◌⊎◌, nat_le, nat_lt}
use mathlib.Core.List.{IsPrefix}
use Rattle.canvas_model.specs.declared.Rule.TheVariants.{Two}
use Rattle.canvas_model.specs.Log.{Edit, Entry, FitsAs, Join, What}
use Rattle.canvas_model.specs.State.{State, joined, done, next}
use Rattle.canvas_model.proofs.Tests.{le_true, lt_true}
use Rattle.canvas_journal.specs.declared.fault.KeepError.TheVariants.{Device, Failed, Memory, TooLarge}
use Rattle.canvas_server.specs.Answered.{IsNextFor, TakesAs, has_no_room}
use Rattle.canvas_server.specs.Asked.{Asked}
use Rattle.canvas_server.specs.Served.{Served}
use Rattle.canvas_server.specs.declared.taking.TakeError.TheVariants as take
use Rattle.canvas_server.specs.declared.taking.Took.TheVariants as took
use Rattle.canvas_board.specs.Marks.{IsLegalHistory, Logged, Mark, Opening, TellsFailure, board, start}
use Rattle.canvas_board.specs.Receipts.{ReceiptValue, EndsWith}
use Rattle.canvas_board.proofs.Boards.{version_before}
use Rattle.canvas_board.proofs.Failures.{tells_later}
use base.Growing.{prefix_refl, prefix_trans}
use Rattle.canvas_desk.specs.declared.faults.Refusal.TheVariants.{Stranger, Repeat, Gap, Full}
use Rattle.canvas_desk.specs.declared.faults.SubmitError.{SubmitError}
use Rattle.canvas_desk.specs.declared.faults.SubmitError.TheVariants.{Refused, NotKept, Owed}
use Rattle.canvas_desk.specs.Judging.{RefusesRequest}
use Rattle.canvas_desk.specs.Submitting.{IsAllShown, IsPublished, LeavesAt, SettlesAt}
use Rattle.canvas_room.specs.Seats.{Answers, IsAnswerTo, AsksForEdit, IsFailedSince, IsOutcomeOf, IsRefusedSince, IsRefusedAt, IsTold, Learns, RefusesEdit, is_failure}
use Rattle.std.proofs.lemmas.Bool.{true≢false}

-- ---- the entry

outcome_as : (s : State) (e : Entry) (w : What) → FitsAs Two s e w → IsOutcomeOf w e.outcome
outcome_as s e Join f = (next s, f.2)
outcome_as s e (Edit change) f = tt

-- an entry of the request that may come next answers it
pub answers_of : (s : State) (q : Asked) (e : Entry) → IsNextFor s q e → Answers q e
answers_of s q e n = record {
  author_is = n.0;
  seq_is = n.1;
  what_is = n.2;
  outcome_is = outcome_as s e q.what (subst (λ (w : What). FitsAs Two s e w) n.2 n.3);
}

told_of : (o : Opening) (seen shown old new due' : List Mark) (failed failed' : Bool) (q : Asked) (result : Result ReceiptValue SubmitError) → IsPrefix seen shown → IfOk result (λ _. IsPrefix shown old)
    → IfOk result (IsPublished o q old new due' failed failed')
    → IfOk result (λ r. EndsWith o r.history r.entry r.version × IsLegalHistory o r.history)
    → IfOk result (λ r. IsTold o seen q r)
told_of o seen shown old new due' failed failed' q (Ok r) pre more ok ends =
    let longer : IsPrefix old r.history = (Logged r.entry ∷ [], sym (ok.history_is ∙ ok.more)) in
    let pre' = prefix_trans seen shown old pre more in
    let less = version_before (start o) seen old pre' in
    record {
      answers = answers_of (board o old).state q r.entry ok.entry_is.next;
      ends = ends.0;
      sees = (prefix_trans seen old r.history pre' longer, ends.1);
      above = omega (arith, less, ok.version_is);
    }
told_of o seen shown old new due' failed failed' q (Err e) pre more ok ends = tt

-- ---- refusals

-- one of two came of a test
pub by_test : (b : Bool) (P Q R : Type 0) → (b ≡ true → P → R) → (Q → R) → cond b P Q → R
by_test true P Q R this others h = this refl h
by_test false P Q R this others h = others h

module _ (b : Served) (q : Asked) where
  stranger_edits : (w : What) → TakesAs b q w (Err take.Stranger) b → AsksForEdit w
  stranger_edits Join h = by_test (has_no_room b Join) _ _ ⊥ (λ _ y. absurd (cc (y.0))) (λ j. absurd (cc (j.2.0))) h
  stranger_edits (Edit change) h = tt

  repeat_edits : (n : ℕ) (w : What) → TakesAs b q w (Ok (took.Repeat n)) b → AsksForEdit w × (q.seq ≤ n)
  repeat_edits n Join h = by_test (has_no_room b Join) _ _ _ (λ _ y. absurd (cc (y.0))) (λ j. absurd (cc (j.2.0))) h
  repeat_edits n (Edit change) h =
      by_test (not (joined b.state q.author)) _ _ _ (λ _ y. absurd (cc (y.0))) (λ h.
      by_test (nat_le q.seq (done b.state q.author)) _ _ _ (λ is y. let le = le_true q.seq (done b.state q.author) is in let same : n ≡ done b.state q.author = cc (y.0) in (tt, omega (arith, le, same))) (λ h.
      by_test (nat_lt (done b.state q.author + 1) q.seq) _ _ _ (λ _ y. absurd (cc (y.0))) (λ h.
      by_test (has_no_room b (Edit change)) _ _ _ (λ _ y. absurd (cc (y.0))) (λ j. absurd (cc (j.2.0))) h) h) h) h

  gap_edits : (n : ℕ) (w : What) → TakesAs b q w (Ok (took.Gap n)) b → AsksForEdit w × (n + 1 < q.seq)
  gap_edits n Join h = by_test (has_no_room b Join) _ _ _ (λ _ y. absurd (cc (y.0))) (λ j. absurd (cc (j.2.0))) h
  gap_edits n (Edit change) h =
      by_test (not (joined b.state q.author)) _ _ _ (λ _ y. absurd (cc (y.0))) (λ h.
      by_test (nat_le q.seq (done b.state q.author)) _ _ _ (λ _ y. absurd (cc (y.0))) (λ h.
      by_test (nat_lt (done b.state q.author + 1) q.seq) _ _ _ (λ is y. let lt = lt_true (done b.state q.author + 1) q.seq is in let same : n ≡ done b.state q.author = cc (y.0) in (tt, omega (arith, lt, same))) (λ h.
      by_test (has_no_room b (Edit change)) _ _ _ (λ _ y. absurd (cc (y.0))) (λ j. absurd (cc (j.2.0))) h) h) h) h

-- a stranger, a repeat and a gap are edits
pub refuses_of : (b : Served) (q : Asked) (e : SubmitError) → RefusesRequest b q e → RefusesEdit q e
refuses_of b q (Refused Stranger) h = stranger_edits b q q.what h
refuses_of b q (Refused (Repeat n)) h = repeat_edits b q n q.what h
refuses_of b q (Refused (Gap n)) h = gap_edits b q n q.what h
refuses_of b q (Refused Full) h = tt
refuses_of b q (NotKept error) h = tt
refuses_of b q (Owed v) h = tt

refuses_edit : (o : Opening) (q : Asked) (e : SubmitError) (due due' : List Mark) (failed failed' : Bool) → LeavesAt o q e due due' failed failed' → RefusesEdit q e
refuses_edit o q (Refused reason) due due' failed failed' l = refuses_of (board o due) q (Refused reason) l.1
refuses_edit o q (NotKept error) due due' failed failed' l = tt
refuses_edit o q (Owed v) due due' failed failed' l = tt

-- ---- what a seat learns with an answer

-- the request was judged in the state of all that is published, which is learned
refused_since : (o : Opening) (q : Asked) (e : SubmitError) (seen shown shown' due due' front : List Mark) → IsPrefix seen shown → IsAllShown shown shown' due' → due' ≡ due → front ≡ shown' → IsLegalHistory o front → RefusesRequest (board o due) q e → IsRefusedAt o seen front q e
refused_since o q e seen shown shown' due due' front pre all same learns legal refuses = record {
  at = due;
  from = subst (λ (l : List Mark). IsPrefix seen l) (all.1 ∙ same) (prefix_trans seen shown shown' pre all.0);
  to = subst (λ (l : List Mark). IsPrefix due l) (sym (learns ∙ (all.1 ∙ same))) (prefix_refl due);
  legal = legal;
  refuses = refuses;
}

refusal_of : (o : Opening) (q : Asked) (e : SubmitError) (seen shown shown' due due' front : List Mark) (failed failed' : Bool) → IsPrefix seen shown → LeavesAt o q e due due' failed failed' → SettlesAt e shown shown' due' → Learns (Err e) seen shown' front → IsLegalHistory o front → is_failure e ≡ false → IsRefusedSince o seen front q e
refusal_of o q (Refused reason) seen shown shown' due due' front failed failed' pre l s k legal fine = refused_since o q (Refused reason) seen shown shown' due due' front pre s l.0.0 k legal l.1
refusal_of o q (NotKept Device) seen shown shown' due due' front failed failed' pre l s k legal fine = absurd (true≢false fine)
refusal_of o q (NotKept Failed) seen shown shown' due due' front failed failed' pre l s k legal fine = absurd (true≢false fine)
refusal_of o q (NotKept Memory) seen shown shown' due due' front failed failed' pre l s k legal fine = k
refusal_of o q (NotKept TooLarge) seen shown shown' due due' front failed failed' pre l s k legal fine = refused_since o q (NotKept TooLarge) seen shown shown' due due' front pre s l.0.0 k legal l.1
refusal_of o q (Owed v) seen shown shown' due due' front failed failed' pre l s k legal fine = k

-- what the desk says is an answer to the seat
pub answer_to : (o : Opening) (q : Asked) (a : Result ReceiptValue SubmitError) (seen shown shown' due due' front : List Mark) (failed failed' : Bool) → IsPrefix seen shown → IfOk a (λ _. IsPrefix shown due)
    → IfOk a (IsPublished o q due shown' due' failed failed') → IfOk a (λ r. EndsWith o r.history r.entry r.version × IsLegalHistory o r.history)
    → IfErr a (λ e. LeavesAt o q e due due' failed failed') → IfErr a (λ e. SettlesAt e shown shown' due') → Learns a seen shown' front → IsLegalHistory o front → IfErr a (λ e. is_failure e ≡ false) → IsAnswerTo o seen q a front
answer_to o q (Ok r) seen shown shown' due due' front failed failed' pre more ok ends l s k legal fine = (told_of o seen shown due shown' due' failed failed' q (Ok r) pre more ok ends, k)
answer_to o q (Err e) seen shown shown' due due' front failed failed' pre more ok ends l s k legal fine = (refuses_edit o q e due due' failed failed' l, refusal_of o q e seen shown shown' due due' front failed failed' pre l s k legal fine)

-- the seat has seen more than what it was to learn
refused_more : (o : Opening) (q : Asked) (e : SubmitError) (old front new : List Mark) → IsPrefix front new → IsLegalHistory o new → IsRefusedAt o old front q e → IsRefusedAt o old new q e
refused_more o q e old front new more legal r = record { at = r.at; from = r.from; to = prefix_trans r.at front new r.to more; legal = legal; refuses = r.refuses }

failed_more : (o : Opening) (old front new : List Mark) → IsPrefix front new → IsLegalHistory o new → IsFailedSince o old front → IsFailedSince o old new
failed_more o old front new more legal r = ((prefix_trans old front new r.0.0 more, legal), tells_later front new more r.1)

-- it has learned nothing
stays : (old front new : List Mark) → front ≡ old → (new ≡ old) ⊎ (new ≡ front) → new ≡ old
stays old front new same (inl is) = is
stays old front new same (inr is) = is ∙ same

refused_learned : (o : Opening) (q : Asked) (e : SubmitError) (old front new : List Mark) → IsPrefix front new → (new ≡ old) ⊎ (new ≡ front) → IsLegalHistory o new → IsRefusedSince o old front q e → IsRefusedSince o old new q e
refused_learned o q (Refused reason) old front new more one legal r = refused_more o q (Refused reason) old front new more legal r
refused_learned o q (NotKept Device) old front new more one legal r = failed_more o old front new more legal r
refused_learned o q (NotKept Failed) old front new more one legal r = failed_more o old front new more legal r
refused_learned o q (NotKept Memory) old front new more one legal r = stays old front new r one
refused_learned o q (NotKept TooLarge) old front new more one legal r = refused_more o q (NotKept TooLarge) old front new more legal r
refused_learned o q (Owed v) old front new more one legal r = stays old front new r one

-- why a seat was refused is to be seen in what it has seen since
pub answer_judged : (o : Opening) (q : Asked) (old front : List Mark) (a : Result ReceiptValue SubmitError) (new : List Mark) → IsAnswerTo o old q a front → IsPrefix front new → (new ≡ old) ⊎ (new ≡ front) → IsLegalHistory o new → IfErr a (λ e. IsRefusedSince o old new q e)
answer_judged o q old front (Ok r) new h more one legal = tt
answer_judged o q old front (Err e) new h more one legal = refused_learned o q e old front new more one legal h.1

-- ---- failures

-- a failure that was learned of is a reason for either error
pub failure_answers : (o : Opening) (q : Asked) (e : SubmitError) (seen front : List Mark) → is_failure e ≡ true → IsFailedSince o seen front → IsAnswerTo o seen q (Err e) front
failure_answers o q (Refused reason) seen front is h = absurd (true≢false (sym is))
failure_answers o q (NotKept Device) seen front is h = (tt, h)
failure_answers o q (NotKept Failed) seen front is h = (tt, h)
failure_answers o q (NotKept Memory) seen front is h = absurd (true≢false (sym is))
failure_answers o q (NotKept TooLarge) seen front is h = absurd (true≢false (sym is))
failure_answers o q (Owed v) seen front is h = absurd (true≢false (sym is))

-- after an error of these the desk has failed
pub failed_after : (o : Opening) (q : Asked) (e : SubmitError) (due due' : List Mark) (failed failed' : Bool) → LeavesAt o q e due due' failed failed' → is_failure e ≡ true → failed' ≡ true
failed_after o q (Refused reason) due due' failed failed' l is = absurd (true≢false (sym is))
failed_after o q (NotKept Device) due due' failed failed' l is = l.0.2
failed_after o q (NotKept Failed) due due' failed failed' l is = l.0.2
failed_after o q (NotKept Memory) due due' failed failed' l is = absurd (true≢false (sym is))
failed_after o q (NotKept TooLarge) due due' failed failed' l is = absurd (true≢false (sym is))
failed_after o q (Owed v) due due' failed failed' l is = absurd (true≢false (sym is))

-- the longer of what was seen and what tells of a failure
pub learned_failure : (o : Opening) (seen told : List Mark) → IsPrefix seen told → IsLegalHistory o told → TellsFailure told → IsFailedSince o seen told
learned_failure o seen told pre legal t = ((pre, legal), t)

pub seen_failure : (o : Opening) (seen told again : List Mark) → again ≡ seen → IsLegalHistory o again → IsPrefix told seen → TellsFailure told → IsFailedSince o seen again
seen_failure o seen told again same legal pre t = ((subst (λ (l : List Mark). IsPrefix seen l) (sym same) (prefix_refl seen), legal), subst TellsFailure (sym same) (tells_later told seen pre t))
