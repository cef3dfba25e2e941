-- What the desk says of the requests of a batch.
use Rattle.std.proofs.Common.{◌≡◌, ℕ, ◌+◌, ◌<◌, List, [], ◌∷◌, ◌++◌, Bool, true, Result, Ok, Err, length, refl, ap, sym, subst, ◌∙◌, arith, inl, inr, append_assoc, length-append}
use Rattle.std.specs.Prelude.{◌⊎◌, IfErr, map}
use mathlib.Core.List.{IsPrefix}
use Rattle.canvas_model.specs.Log.{Entry}
use Rattle.canvas_journal.specs.declared.fault.KeepError.TheVariants.{Device, Failed, Memory, TooLarge}
use Rattle.canvas_server.specs.Asked.{Asked}
use Rattle.canvas_server.specs.Served.{Served}
use Rattle.canvas_board.specs.Marks.{IsLegalHistory, Logged, Mark, Opening, board, start, step}
use Rattle.canvas_board.specs.Receipts.{ReceiptValue}
use Rattle.canvas_board.proofs.Boards.{board_add, legal_begin, version_before}
use Rattle.canvas_board.proofs.Fronts.{shorter_begins}
use base.Growing.{prefix_refl, prefix_trans}
use Rattle.canvas_desk.specs.declared.faults.SubmitError.{SubmitError}
use Rattle.canvas_desk.specs.declared.faults.SubmitError.TheVariants.{Refused, NotKept, Owed}
use Rattle.canvas_desk.specs.Fates.{AreJudged, as_owed, marks, receipts, unjudged}
use Rattle.canvas_desk.specs.Batches.{IsAnswered, LeavesBatch}
use Rattle.canvas_desk.specs.Faults.{is_memory}
use Rattle.canvas_desk.specs.Judging.{IsEntryFor, RefusesRequest}
use Rattle.canvas_desk.proofs.Boards.{board_next, stands_next}
use Rattle.canvas_room.specs.Batches.{AreSaid, AreSeen, IsUnanswered, Says}
use Rattle.canvas_room.specs.Seats.{IsAnswerTo, IsRefusedSince, IsRefusedAt, IsTold, Learns, RefusesEdit, is_failure}
use Rattle.std.proofs.lemmas.Bool.{true≢false}
use Rattle.canvas_room.proofs.Told.{answers_of, by_test, refuses_of}

-- a beginning of a legal history is legal
legal_before : (o : Opening) (xs ys : List Mark) → IsPrefix xs ys → IsLegalHistory o ys → IsLegalHistory o xs
legal_before o xs ys pre legal = legal_begin (start o) xs pre.0 (subst (λ (l : List Mark). IsLegalHistory o l) (sym pre.1) legal)

-- ---- seats

pub seen_more : (xs ys : List Mark) (seens : List (List Mark)) → IsPrefix xs ys → AreSeen xs seens → AreSeen ys seens
seen_more xs ys [] more h = tt
seen_more xs ys (seen ∷ seens) more h = (prefix_trans seen xs ys h.0 more, seen_more xs ys seens more h.1)

-- and of one seat more
pub seen_push : {Y : Type 0} (history : List Mark) (seen : Y → List Mark) (ys ys' : List Y) (y : Y) → ys' ≡ ys ++ y ∷ [] → AreSeen history (map seen ys) → IsPrefix (seen y) history → AreSeen history (map seen ys')
seen_push {Y} history seen ys ys' y more h last = subst (λ (l : List Y). AreSeen history (map seen l)) (sym more) (by ys h)
  where
    by : (ys : List Y) → AreSeen history (map seen ys) → AreSeen history (map seen (ys ++ y ∷ []))
    by [] h = (last, tt)
    by (x ∷ ys) h = (h.0, by ys h.1)

-- ---- answers

-- where memory was refused none is judged
said_none : (o : Opening) (due : List Mark) (qs : List Asked) (seens : List (List Mark)) (shown : List Mark) (v : ℕ) → AreSaid o due qs seens (receipts shown v (unjudged qs))
said_none o due [] seens shown v = tt
said_none o due (q ∷ qs) [] shown v = tt
said_none o due (q ∷ qs) (seen ∷ seens) shown v = ((tt, inl refl), said_none o due qs seens shown v)

-- the request's entry stands next
told_next : (o : Opening) (q : Asked) (e : Entry) (seen due due' : List Mark) (v : ℕ) → IsPrefix seen due → v ≡ (board o due).version → IsEntryFor (board o due) q e → IsPrefix (due ++ Logged e ∷ []) due' → IsLegalHistory o due'
    → IsTold o seen q (record { history = due ++ Logged e ∷ []; entry = e; version = v + 1 })
told_next o q e seen due due' v pre at is more legal =
    let next = due ++ Logged e ∷ [] in
    let less = version_before (start o) seen due pre in
    record {
      answers = answers_of (board o due).state q e is.next;
      ends = stands_next o due next e (v + 1) refl (ap (λ n. n + 1) at);
      sees = (prefix_trans seen due next pre (Logged e ∷ [], refl), legal_before o next due' more legal);
      above = omega (arith, less, at);
    }

-- it is refused in the state of what is due then
refused_next : (o : Opening) (q : Asked) (e : SubmitError) (seen due due' : List Mark) → IsPrefix seen due → IsPrefix due due' → IsLegalHistory o due' → RefusesRequest (board o due) q e → Says o seen due' q (Err e)
refused_next o q e seen due due' pre more legal h = (refuses_of (board o due) q e h, inr (record { at = due; from = pre; to = more; legal = legal; refuses = h }))

module _ (o : Opening) (due' : List Mark) (legal : IsLegalHistory o due') where
  -- each request of a batch, judged in the state after those before it
  said_each : (qs : List Asked) (seens : List (List Mark)) (fates : List (Result Entry SubmitError)) (due : List Mark) (b : Served) (v : ℕ) → b ≡ board o due → v ≡ (board o due).version → AreSeen due seens → AreJudged b qs fates → IsPrefix (due ++ marks fates) due'
      → AreSaid o due' qs seens (receipts due v fates)
  said_each [] seens fates due b v is at seen judged more = tt
  said_each (q ∷ qs) [] fates due b v is at seen judged more = tt
  said_each (q ∷ qs) (s ∷ ss) [] due b v is at seen judged more = tt
  said_each (q ∷ qs) (s ∷ ss) (Ok e ∷ fates) due b v is at seen judged more =
      let next = due ++ Logged e ∷ [] in
      let all : IsPrefix (next ++ marks fates) due' = subst (λ (l : List Mark). IsPrefix l due') (sym (append_assoc due (Logged e ∷ []) (marks fates))) more in
      let rest : IsPrefix next due' = prefix_trans next (next ++ marks fates) due' (marks fates, refl) all in
      let entry = subst (λ (x : Served). IsEntryFor x q e) is judged.0 in
      let here : step b (Logged e) ≡ board o next = ap (λ x. step x (Logged e)) is ∙ board_next o due next (Logged e) refl in
      let version : v + 1 ≡ (board o next).version = ap (λ n. n + 1) at ∙ ap (λ (x : Served). x.version) (board_next o due next (Logged e) refl) in
      (told_next o q e s due due' v seen.0 at entry rest legal, said_each qs ss fates next (step b (Logged e)) (v + 1) here version (seen_more due next ss (Logged e ∷ [], refl) seen.1) judged.1 all)
  said_each (q ∷ qs) (s ∷ ss) (Err e ∷ fates) due b v is at seen judged more =
      let rest : IsPrefix due due' = prefix_trans due (due ++ marks fates) due' (marks fates, refl) more in (
        refused_next o q e s due due' seen.0 rest legal (subst (λ (x : Served). RefusesRequest x q e) is judged.0),
        by_test (is_memory e) (fates ≡ unjudged qs) (AreJudged b qs fates) (AreSaid o due' qs ss (receipts due v fates))
            (λ _ none. subst (λ l. AreSaid o due' qs ss (receipts due v l)) (sym none) (said_none o due' qs ss due v))
            (λ others. said_each qs ss fates due b v is at seen.1 others more) judged.1,
      )

-- where nothing could be published, versions stand in the place of receipts
said_owed : (o : Opening) (due : List Mark) (qs : List Asked) (seens : List (List Mark)) (answers : List (Result ReceiptValue SubmitError)) → AreSaid o due qs seens answers → AreSaid o due qs seens (map as_owed answers)
said_owed o due [] seens answers h = tt
said_owed o due (q ∷ qs) [] answers h = tt
said_owed o due (q ∷ qs) (s ∷ ss) [] h = tt
said_owed o due (q ∷ qs) (s ∷ ss) (Ok r ∷ answers) h = ((tt, inl refl), said_owed o due qs ss answers h.1)
said_owed o due (q ∷ qs) (s ∷ ss) (Err e ∷ answers) h = (h.0, said_owed o due qs ss answers h.1)

-- what the desk answers a batch says that of each request
pub answers_said : (o : Opening) (qs : List Asked) (seens : List (List Mark)) (shown front history due history' due' : List Mark) (failed failed' : Bool) (answers : List (Result ReceiptValue SubmitError))
    → IsAnswered o qs due history' due' failed failed' answers → IsPrefix history due → shown ≡ history → AreSeen shown seens → front ≡ due' → IsLegalHistory o due' → AreSaid o front qs seens answers
answers_said o qs seens shown front history due history' due' failed failed' answers h longer was seen is legal =
    let all : IsPrefix (due ++ marks h.fates) due' = subst (λ (l : List Mark). IsPrefix l due') h.more (prefix_refl due') in
    let before = seen_more history due seens longer (subst (λ (l : List Mark). AreSeen l seens) was seen) in
    let said = said_each o due' legal qs seens h.fates due (board o due) (board o due).version refl refl before h.judged all in
    let told : AreSaid o due' qs seens answers =
    elim h.told [
      | inl t ↦ subst (λ l. AreSaid o due' qs seens l) (sym t.1) said
      | inr t ↦ subst (λ l. AreSaid o due' qs seens l) (sym t.1) (said_owed o due' qs seens (receipts due (board o due).version h.fates) said)
    ]
    in
    subst (λ (l : List Mark). AreSaid o l qs seens answers) (sym is) told

-- the first answer, and the others
pub said_first : {X Y : Type 0} (o : Opening) (due : List Mark) (asked : X → Asked) (seen : Y → List Mark) (xs xs' : List X) (ys ys' : List Y) (answers answers' : List (Result ReceiptValue SubmitError)) (x : X) (y : Y) (a : Result ReceiptValue SubmitError)
    → xs ≡ x ∷ xs' → ys ≡ y ∷ ys' → answers ≡ a ∷ answers' → AreSaid o due (map asked xs) (map seen ys) answers → Says o (seen y) due (asked x) a × AreSaid o due (map asked xs') (map seen ys') answers'
said_first {X} {Y} o due asked seen xs xs' ys ys' answers answers' x y a first second third h =
    let one = subst (λ (l : List X). AreSaid o due (map asked l) (map seen ys) answers) first h in
    let two = subst (λ (l : List Y). AreSaid o due (map asked (x ∷ xs')) (map seen l) answers) second one in
    subst (λ (l : List (Result ReceiptValue SubmitError)). AreSaid o due (map asked (x ∷ xs')) (map seen (y ∷ ys')) l) third two

-- why a batch isn't answered
unanswered_of : (o : Opening) (qs : List Asked) (e : SubmitError) (due due' : List Mark) (failed failed' : Bool) → LeavesBatch o qs e due due' failed failed' → IsUnanswered failed' e
unanswered_of o qs (Refused reason) due due' failed failed' l = absurd l
unanswered_of o qs (NotKept Device) due due' failed failed' l = inr (refl, l.0.2)
unanswered_of o qs (NotKept Failed) due due' failed failed' l = inr (refl, l.0.2)
unanswered_of o qs (NotKept Memory) due due' failed failed' l = inl refl
unanswered_of o qs (NotKept TooLarge) due due' failed failed' l = absurd (l.1)
unanswered_of o qs (Owed v) due due' failed failed' l = absurd l

pub batch_unanswered : {V : Type 0} (o : Opening) (qs : List Asked) (a : Result V SubmitError) (due due' : List Mark) (failed failed' : Bool) → IfErr a (λ e. LeavesBatch o qs e due due' failed failed') → IfErr a (λ e. IsUnanswered failed' e)
batch_unanswered o qs (Ok r) due due' failed failed' l = tt
batch_unanswered o qs (Err e) due due' failed failed' l = unanswered_of o qs e due due' failed failed' l

no_memory : (e : SubmitError) → is_failure e ≡ true → is_memory e ≡ true → ⊥
no_memory (Refused reason) is m = true≢false (sym m)
no_memory (NotKept Device) is m = true≢false (sym m)
no_memory (NotKept Failed) is m = true≢false (sym m)
no_memory (NotKept Memory) is m = true≢false (sym is)
no_memory (NotKept TooLarge) is m = true≢false (sym m)
no_memory (Owed v) is m = true≢false (sym is)

-- where it tells of a failure, the desk has failed; else memory was refused
pub unanswered_failed : (failed : Bool) (e : SubmitError) → IsUnanswered failed e → is_failure e ≡ true → failed ≡ true
unanswered_failed failed e (inl m) is = absurd (no_memory e is m)
unanswered_failed failed e (inr f) is = f.1

pub unanswered_memory : (failed : Bool) (e : SubmitError) → IsUnanswered failed e → (is_failure e ≡ true → ⊥) → is_memory e ≡ true
unanswered_memory failed e (inl m) never = m
unanswered_memory failed e (inr f) never = absurd (never f.0)

-- ---- replies

-- an answer to the same request, for a seat that had seen the same
pub answer_as : (o : Opening) (q q' : Asked) (a : Result ReceiptValue SubmitError) (seen seen' front : List Mark) → q ≡ q' → seen ≡ seen' → IsAnswerTo o seen q a front → IsAnswerTo o seen' q' a front
answer_as o q q' a seen seen' front asked same h = subst (λ (l : List Mark). IsAnswerTo o l q' a front) same (subst (λ (x : Asked). IsAnswerTo o seen x a front) asked h)

-- the receipt of an entry, for a seat that has seen some of the history that the entry ends, but not the entry
pub told_later : (o : Opening) (q : Asked) (r : ReceiptValue) (seen later : List Mark) → IsTold o seen q r → IsPrefix later r.history → length later < length r.history → IsTold o later q r
told_later o q r seen later h pre less =
    let before = h.ends.0 in
    let is = h.ends.1 in
    let size : length r.history ≡ length before + 1 = ap length is ∙ length-append before (Logged r.entry ∷ []) in
    let begins = shorter_begins later before r.history pre (Logged r.entry ∷ [], sym is) (omega (arith, size, less)) in
    let rises = version_before (start o) later before begins in
    let next : r.version ≡ (board o before).version + 1 = h.ends.2 ∙ (ap (λ (l : List Mark). (board o l).version) is ∙ ap (λ (b : Served). b.version) (board_add (start o) before (Logged r.entry))) in
    record {
      answers = h.answers;
      ends = h.ends;
      sees = (pre, h.sees.1);
      above = omega (arith, rises, next);
    }

pub answer_later : (o : Opening) (q q' : Asked) (a : Result ReceiptValue SubmitError) (r : ReceiptValue) (seen later front front' : List Mark) → q ≡ q' → a ≡ Ok r → IsAnswerTo o seen q a front → IsPrefix later r.history × (length later < length r.history) → front' ≡ later
    → IsAnswerTo o later q' (Ok r) front'
answer_later o q q' a r seen later front front' asked is h more same =
    let told : IsAnswerTo o seen q' (Ok r) front = subst (λ (x : Asked). IsAnswerTo o seen x (Ok r) front) asked (subst (λ (x : Result ReceiptValue SubmitError). IsAnswerTo o seen q x front) is h) in
    (told_later o q' r seen later told.0 more.0 more.1, same)

refused_as : (o : Opening) (q : Asked) (e : SubmitError) (seen due front : List Mark) → front ≡ due → (is_memory e ≡ true) ⊎ IsRefusedAt o seen due q e → (is_memory e ≡ true → ⊥) → IsRefusedAt o seen front q e
refused_as o q e seen due front is (inl h) never = absurd (never h)
refused_as o q e seen due front is (inr h) never = subst (λ (l : List Mark). IsRefusedAt o seen l q e) (sym is) h

-- no answer of a batch that was judged tells of a failure
no_failure : (o : Opening) (q : Asked) (e : SubmitError) (seen due : List Mark) {P : Type 0} → (is_memory e ≡ true) ⊎ IsRefusedAt o seen due q e → (is_memory e ≡ true → ⊥) → ((b : Served) → RefusesRequest b q e → ⊥) → P
no_failure o q e seen due (inl h) never none = absurd (never h)
no_failure o q e seen due (inr h) never none = absurd (none (board o h.at) h.refuses)

refusal_said : (o : Opening) (q : Asked) (e : SubmitError) (seen due front : List Mark) → Learns (Err e) seen due front → (is_memory e ≡ true) ⊎ IsRefusedAt o seen due q e → IsRefusedSince o seen front q e
refusal_said o q (Refused reason) seen due front k h = refused_as o q (Refused reason) seen due front k h (λ m. true≢false (sym m))
refusal_said o q (NotKept Device) seen due front k h = no_failure o q (NotKept Device) seen due h (λ m. true≢false (sym m)) (λ b n. n)
refusal_said o q (NotKept Failed) seen due front k h = no_failure o q (NotKept Failed) seen due h (λ m. true≢false (sym m)) (λ b n. n)
refusal_said o q (NotKept Memory) seen due front k h = k
refusal_said o q (NotKept TooLarge) seen due front k h = refused_as o q (NotKept TooLarge) seen due front k h (λ m. true≢false (sym m))
refusal_said o q (Owed v) seen due front k h = k

-- an answer of a batch is an answer to the seat
pub said_answers : (o : Opening) (q : Asked) (a : Result ReceiptValue SubmitError) (seen due front : List Mark) → Says o seen due q a → Learns a seen due front → IsAnswerTo o seen q a front
said_answers o q (Ok r) seen due front h k = (h, k)
said_answers o q (Err e) seen due front h k = (h.0, refusal_said o q e seen due front k h.1)

refusal_unjudged : (o : Opening) (q : Asked) (e : SubmitError) (seen front : List Mark) → is_memory e ≡ true → front ≡ seen → RefusesEdit q e × IsRefusedSince o seen front q e
refusal_unjudged o q (Refused reason) seen front m same = absurd (true≢false (sym m))
refusal_unjudged o q (NotKept Device) seen front m same = absurd (true≢false (sym m))
refusal_unjudged o q (NotKept Failed) seen front m same = absurd (true≢false (sym m))
refusal_unjudged o q (NotKept Memory) seen front m same = (tt, same)
refusal_unjudged o q (NotKept TooLarge) seen front m same = absurd (true≢false (sym m))
refusal_unjudged o q (Owed v) seen front m same = (tt, same)

-- a request for which memory was refused
pub unjudged_answers : (o : Opening) (q : Asked) (e : SubmitError) (seen front : List Mark) → is_memory e ≡ true → front ≡ seen → IsAnswerTo o seen q (Err e) front
unjudged_answers o q e seen front m same = refusal_unjudged o q e seen front m same
