-- A client that follows what a seat has seen follows it after each round over a link to the seat.
use Rattle.std.proofs.Common.{◌≡◌, ◌⊎◌, ℕ, zero, suc, ◌+◌, ◌≤◌, ◌<◌, List, [], ◌∷◌, ◌++◌, length, take, refl, ap, sym, ◌∙◌, subst, arith, append_assoc}
use mathlib.Core.Logic.{inl, inr}
use Rattle.std.specs.Prelude.{Bool, true, false, cond, not, nat_le, nat_lt, slice_get, Some, Result, Ok, Err}
use Rattle.canvas_model.specs.Change.{Change}
use Rattle.canvas_model.specs.State.{State, opening, done, joined}
use Rattle.canvas_model.specs.Log.{Entry, Edit, at_version, fold}
use Rattle.canvas_model.specs.Log as model
use Rattle.canvas_model.specs.Client.{Client, Yields}
use Rattle.canvas_model.specs.Messages.{Message, Welcome, Idle, No}
use Rattle.canvas_model.specs.Messages as messages
use Rattle.canvas_model.specs.Laws.{EachEntryStands, EachVersionIsSound}
use Rattle.canvas_model.proofs.Log.{counted, done_mono, step_at, take_all}
use Rattle.canvas_model.proofs.Lists.{nth-within}
use Rattle.canvas_model.proofs.Tests.{le_true}
use Rattle.canvas_server.specs.Asked.{Asked}
use Rattle.canvas_server.specs.Served.{Served}
use Rattle.canvas_server.specs.Answered.{IsJudged as JudgesNew, TakesAs, has_no_room}
use Rattle.canvas_server.specs.declared.taking.Took.{Took}
use Rattle.canvas_server.specs.declared.taking.Took.TheVariants as took
use Rattle.canvas_server.specs.declared.taking.TakeError.{TakeError}
use Rattle.canvas_server.specs.declared.taking.TakeError.TheVariants as take
use Rattle.canvas_client.specs.Follow.{EachVerdictLeavesRoot}
use Rattle.canvas_board.specs.Marks.{IsLegalHistory, Logged, Mark, Opening, board, start}
use Rattle.canvas_board.proofs.Boards.{legal_begin}
use Rattle.canvas_desk.specs.declared.faults.Refusal.TheVariants.{Stranger, Repeat, Gap, Full}
use Rattle.canvas_desk.specs.declared.faults.SubmitError.{SubmitError}
use Rattle.canvas_desk.specs.declared.faults.SubmitError.TheVariants.{Refused, NotKept, Owed}
use Rattle.canvas_room.specs.Seats.{IsRefusedSince}
use Rattle.canvas_nodes.specs.declared.link.LinkError.{LinkError}
use Rattle.canvas_nodes.specs.Answers.{EndsAnswer}
use Rattle.canvas_nodes.specs.Hears.{Breaks, Hears, HearsOfEdit}
use Rattle.room_handler.specs.News.{news_of}
use Rattle.room_handler.specs.Table.{AnswersAsk, AnswersRequest, IsSince, SaysOf, answer_of}
use Rattle.room_handler.specs.Links.{Grants, IsNo, RefusesRound}
use Rattle.room_handler.proofs.Ends.{says_ends}
use Rattle.room_handler.proofs.SeesOn.{refused_sees}
use Rattle.canvas_threads.specs.Follows.{AreFirstOf, IsTrueFor}
use Rattle.canvas_threads.specs.Histories.{AreTrueFor, FollowsAt, OpensAfter, entries_of, log_of}
use Rattle.canvas_threads.proofs.Histories.{Longer, entries_append, follows_longer, log_append, records, same_at, seen_legal, seen_longer}
use Rattle.canvas_threads.proofs.News.{news_true}
use Rattle.canvas_threads.proofs.Heard.{heard_each, heard_some}

-- what a server may answer an edit
abbrev repeats : ℕ → Result Took TakeError
repeats n = Ok (took.Repeat n)

abbrev gaps : ℕ → Result Took TakeError
gaps n = Ok (took.Gap n)

abbrev refuses : TakeError → Result Took TakeError
refuses e = Err e

-- an edit is a repeat where its number was judged
repeat_done : (b : Served) (q : Asked) (change : Change) (n : ℕ) → TakesAs b q (Edit change) (repeats n) b → q.seq ≤ done b.state q.author
repeat_done b q change n h = stranger (not (joined b.state q.author)) h
  where
    full : (t : Bool) → cond t (Yields (refuses take.Full) b (repeats n) b) (JudgesNew b q (repeats n) b) → q.seq ≤ done b.state q.author
    full true h = absurd (cc (h.0))
    full false h = absurd (cc (h.2.0))

    gap : (t : Bool) → cond t (Yields (gaps (done b.state q.author)) b (repeats n) b) (cond (has_no_room b (Edit change)) (Yields (refuses take.Full) b (repeats n) b) (JudgesNew b q (repeats n) b)) → q.seq ≤ done b.state q.author
    gap true h = absurd (cc (h.0))
    gap false h = full (has_no_room b (Edit change)) h

    repeat : (t : Bool) → nat_le q.seq (done b.state q.author) ≡ t → cond t (Yields (repeats (done b.state q.author)) b (repeats n) b)
        (cond (nat_lt (done b.state q.author + 1) q.seq) (Yields (gaps (done b.state q.author)) b (repeats n) b) (cond (has_no_room b (Edit change)) (Yields (refuses take.Full) b (repeats n) b) (JudgesNew b q (repeats n) b)))
        → q.seq ≤ done b.state q.author
    repeat true is h = le_true q.seq (done b.state q.author) is
    repeat false is h = gap (nat_lt (done b.state q.author + 1) q.seq) h

    stranger : (t : Bool) → cond t (Yields (refuses take.Stranger) b (repeats n) b) (cond (nat_le q.seq (done b.state q.author)) (Yields (repeats (done b.state q.author)) b (repeats n) b)
        (cond (nat_lt (done b.state q.author + 1) q.seq) (Yields (gaps (done b.state q.author)) b (repeats n) b) (cond (has_no_room b (Edit change)) (Yields (refuses take.Full) b (repeats n) b) (JudgesNew b q (repeats n) b))))
        → q.seq ≤ done b.state q.author
    stranger true h = absurd (cc (h.0))
    stranger false h = repeat (nat_le q.seq (done b.state q.author)) refl h

get_middle : (xs ys : List Entry) (x : Entry) → slice_get (xs ++ x ∷ ys) (length xs) ≡ Some x
get_middle [] ys x = refl
get_middle (y ∷ xs) ys x = get_middle xs ys x

-- no fewer edits are judged in a longer log
pub done_longer : (log new : List Entry) (c : ℕ) → 0 < c → model.IsLegal opening new → Longer log new → done (fold opening log) c ≤ done (fold opening new) c
done_longer log new c given legal longer =
    let legal' : model.IsLegal opening (log ++ longer.more) = subst (model.IsLegal opening) longer.is legal in
    let mono = done_mono opening (log ++ longer.more) legal'.fits c given (length log) (length (log ++ longer.more)) (omega (arith, Rattle.std.proofs.Common.length-append log longer.more)) in
    let first : done (at_version (log ++ longer.more) (length log)) c ≡ done (fold opening log) c = ap (λ (s : State). done s c) (same_at log longer.more (length log) (omega arith)) ∙ ap (λ (l : List Entry). done (fold opening l) c) (take_all log) in
    let last : done (at_version (log ++ longer.more) (length (log ++ longer.more))) c ≡ done (fold opening new) c = ap (λ (l : List Entry). done (fold opening l) c) (take_all (log ++ longer.more) ∙ sym longer.is) in
    omega (arith, mono, first, last)

-- an entry that was judged since stands in the log
pub since_there : (past : List Entry) (before after : List Mark) (e : Entry) → IsSince before after e → (k : ℕ) × (slice_get (log_of past after) k ≡ Some e)
since_there past before after e since =
    let first = log_of past before ++ entries_of since.before in
    let is : log_of past after ≡ first ++ e ∷ entries_of since.after =
    ap (log_of past) since.new_is ∙ log_append past before (since.before ++ Logged e ∷ since.after)
    ∙ ap (λ (l : List Entry). log_of past before ++ l) (entries_append since.before (Logged e ∷ since.after))
    ∙ sym (append_assoc (log_of past before) (entries_of since.before) (e ∷ entries_of since.after)) in
    (length first, ap (λ (l : List Entry). slice_get l (length first)) is ∙ get_middle first (entries_of since.after) e)

-- the number of an entry that stands in the log is judged
stands_judged : (log : List Entry) → model.IsLegal opening log → (c k : ℕ) (e : Entry) → 0 < c → slice_get log k ≡ Some e → e.author ≡ c → e.seq ≤ done (fold opening log) c
stands_judged log legal c k e given here mine =
    let s = step_at opening log k e legal.fits here in
    let count = counted (at_version log k) e s.0 c given mine in
    let now : done (at_version log (suc k)) c ≡ suc (done (at_version log k) c) = ap (λ (t : State). done t c) s.1 ∙ count.now in
    let mono = done_mono opening log legal.fits c given (suc k) (length log) (nth-within log (suc k) e here).1 in
    let last : done (at_version log (length log)) c ≡ done (fold opening log) c = ap (λ (l : List Entry). done (fold opening l) c) (take_all log) in
    omega (arith, now, count.number, mono, last)

module _ (sound : EachVersionIsSound) (stands_after : EachEntryStands) (leaves : EachVerdictLeavesRoot) (o : Opening) (past : List Entry) (opens : OpensAfter o past) (c : ℕ) (edits : List Change) where
  -- the log at what was seen is legal
  pub legal_at : (seen : List Mark) → IsLegalHistory o seen → model.IsLegal opening (log_of past seen)
  legal_at seen legal = (records o past opens seen legal).legal

  -- what a client of this id asks
  abbrev pub IsAskedBy : Message → Type 0
  IsAskedBy (messages.Ask d v) = d ≡ c
  IsAskedBy m = Unit {0}

  end_true : (log : List Entry) (m : Message) → EndsAnswer m → IsTrueFor log c m
  end_true log (Welcome n) ends = tt
  end_true log Idle ends = tt
  end_true log (No reason) ends = tt
  end_true log messages.Join ends = absurd ends
  end_true log (messages.Edit n seq change) ends = absurd ends
  end_true log (messages.Ask n v) ends = absurd ends
  end_true log (messages.Entry v e) ends = absurd ends
  end_true log (messages.Copy v n d) ends = absurd ends

  request_true : (q : Asked) (before : List Mark) (answer : List Message) (after : List Mark) → AnswersRequest o q before answer after → AreTrueFor (log_of past after) c answer
  request_true q before answer after h = subst (AreTrueFor (log_of past after) c) (sym h.1) (end_true (log_of past after) h.0 (says_ends o q before h.0 after h.2), tt)

  ask_true : (d v : ℕ) (before : List Mark) (answer : List Message) (after : List Mark) → d ≡ c → IsLegalHistory o after → AnswersAsk (board o after) d v answer → (IsNo answer → ⊥) → AreTrueFor (log_of past after) c answer
  ask_true d v before answer after mine legal (inl t) granted =
      subst (AreTrueFor (log_of past after) c) (sym t.1)
      (subst (λ (x : ℕ). AreTrueFor (log_of past after) c (news_of (board o after) x v ++ Idle ∷ [])) (sym mine) (news_true (board o after) (log_of past after) (records o past opens after legal) c v))
  ask_true d v before answer after mine legal (inr t) granted = absurd (granted (subst IsNo (sym t.1) tt))

  -- what is granted is true of what the seat has seen then
  answer_true : (asked : Message) (before : List Mark) (answer : List Message) (after : List Mark) → IsAskedBy asked → IsLegalHistory o after → Grants o before asked answer after → AreTrueFor (log_of past after) c answer
  answer_true messages.Join before answer after mine legal g = request_true _ before answer after g.0.1
  answer_true (messages.Edit n seq change) before answer after mine legal g = request_true _ before answer after g.0.1
  answer_true (messages.Ask d v) before answer after mine legal g = ask_true d v before answer after mine legal g.0.1 g.1
  answer_true (Welcome n) before answer after mine legal g = absurd (g.1 (subst IsNo (sym g.0.1.0) tt))
  answer_true (messages.Entry v e) before answer after mine legal g = absurd (g.1 (subst IsNo (sym g.0.1.0) tt))
  answer_true (messages.Copy v n d) before answer after mine legal g = absurd (g.1 (subst IsNo (sym g.0.1.0) tt))
  answer_true Idle before answer after mine legal g = absurd (g.1 (subst IsNo (sym g.0.1.0) tt))
  answer_true (No reason) before answer after mine legal g = absurd (g.1 (subst IsNo (sym g.0.1.0) tt))

  -- the client follows what was seen before a round, also by what was seen after it
  pub follows_on : (before after : List Mark) (client : Client) → FollowsAt o past c edits before client → Rattle.room_handler.specs.Table.SeesOn o before after → FollowsAt o past c edits after client
  follows_on before after client f sees = record {
    legal = seen_legal o before after f.legal sees;
    follows = follows_longer (log_of past before) (log_of past after) c edits client (seen_longer o past before after sees) f.follows;
  }

  -- after a round whose answer was heard
  pub heard : (asked : Message) (old : Client) (before : List Mark) (new : Client) (after : List Mark) → IsAskedBy asked → FollowsAt o past c edits before old → AreFirstOf c edits (log_of past after)
      → Hears (Grants o) (RefusesRound o) asked old before new after → FollowsAt o past c edits after new × (old.version ≤ new.version)
  heard asked old before new after mine f all h =
      let on = follows_on before after old f h.1.0.0 in
      let g = heard_each sound stands_after leaves (log_of past after) (legal_at after on.legal) c edits all old on.follows h.0 (answer_true asked before h.0 after mine on.legal h.1) new h.2 in
      (record { legal = on.legal; follows = g.0 }, g.1)

  -- after a round that broke off
  pub broke : (asked : Message) (e : LinkError) (old : Client) (before : List Mark) (new : Client) (after : List Mark) → IsAskedBy asked → FollowsAt o past c edits before old → AreFirstOf c edits (log_of past after)
      → Breaks (Grants o) (RefusesRound o) asked e old before new after → FollowsAt o past c edits after new
  broke asked e old before new after mine f all (inl h) =
      subst (FollowsAt o past c edits after) (sym h.1) (follows_on before after old f (refused_sees o before asked e after h.0))
  broke asked e old before new after mine f all (inr h) =
      let on = follows_on before after old f h.1.0.0 in
      let g = heard_some sound stands_after leaves (log_of past after) (legal_at after on.legal) c edits all old on.follows h.0 (answer_true asked before h.0 after mine on.legal h.1) e new h.2 in
      record { legal = on.legal; follows = g.0 }

  since_judged : (before after : List Mark) (e : Entry) → 0 < c → IsLegalHistory o after → IsSince before after e → e.author ≡ c → e.seq ≤ done (fold opening (log_of past after)) c
  since_judged before after e given legal since mine =
      let there = since_there past before after e since in
      stands_judged (log_of past after) (legal_at after legal) c there.0 e given there.1 mine

  -- an edit that is answered with no No is judged by what the seat has seen then
  module _ (number : ℕ) (change : Change) (before after : List Mark) (given : 0 < c) (legal : IsLegalHistory o after) where
    refused : (m : Message) (e : SubmitError) → IsRefusedSince o before after (record { author = c; seq = number; what = Edit change }) e → m ≡ answer_of e → (IsNo (m ∷ []) → ⊥) → number ≤ done (fold opening (log_of past after)) c
    refused m (Refused Stranger) judged told granted = absurd (granted (subst (λ (x : Message). IsNo (x ∷ [])) (sym told) tt))
    refused m (Refused (Repeat d)) judged told granted =
        let low = repeat_done (board o judged.at) (record { author = c; seq = number; what = Edit change }) change d judged.refuses in
        let legal' : IsLegalHistory o judged.at = legal_begin (start o) judged.at judged.to.0 (subst (IsLegalHistory o) (sym judged.to.1) legal) in
        let state = ap (λ (s : State). done s c) (records o past opens judged.at legal').state in
        let more = done_longer (log_of past judged.at) (log_of past after) c given (legal_at after legal) (seen_longer o past judged.at after (inr (judged.to, legal))) in
        omega (arith, low, state, more)
    refused m (Refused (Gap d)) judged told granted = absurd (granted (subst (λ (x : Message). IsNo (x ∷ [])) (sym told) tt))
    refused m (Refused Full) judged told granted = absurd (granted (subst (λ (x : Message). IsNo (x ∷ [])) (sym told) tt))
    refused m (NotKept error) judged told granted = absurd (granted (subst (λ (x : Message). IsNo (x ∷ [])) (sym told) tt))
    refused m (Owed v) judged told granted = absurd (granted (subst (λ (x : Message). IsNo (x ∷ [])) (sym told) tt))

    said : (m : Message) → SaysOf o (record { author = c; seq = number; what = Edit change }) before m after → (IsNo (m ∷ []) → ⊥) → number ≤ done (fold opening (log_of past after)) c
    said m (inl j) granted = let low = since_judged before after j.entry given legal j.since j.answers.author_is in omega (arith, low, j.answers.seq_is)
    said m (inr t) granted = refused m t.error t.judged t.told granted

    pub answered : (answer : List Message) → Grants o before (messages.Edit c number change) answer after → number ≤ done (fold opening (log_of past after)) c
    answered answer g = said g.0.1.0 g.0.1.2 (λ is_no. g.1 (subst IsNo (sym g.0.1.1) is_no))

  -- a waiting edit was sent, and the answer heard
  pub heard_edit : (i number : ℕ) (old : Client) (before : List Mark) (new : Client) (after : List Mark) → number ≡ old.acknowledged + i → FollowsAt o past c edits before old → AreFirstOf c edits (log_of past after)
      → HearsOfEdit (Grants o) (RefusesRound o) i old before new after → FollowsAt o past c edits after new × (number ≤ done (fold opening (log_of past after)) c)
  heard_edit i number old before new after at f all (asked, w, h) =
      let both : Some w.0 ≡ Some c = sym w.2 ∙ f.follows.holds in
      let mine : w.0 ≡ c = cc in
      let is : asked ≡ messages.Edit c number w.1 = w.4 ∙ (λ j. messages.Edit (mine j) (sym at j) w.1) in
      let g = subst (λ (m : Message). Hears (Grants o) (RefusesRound o) m old before new after) is h in
      let on = heard (messages.Edit c number w.1) old before new after tt f all g in
      (on.0, answered number w.1 before after f.follows.given on.0.legal g.0 g.1)
