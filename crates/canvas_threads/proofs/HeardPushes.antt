-- A client that hears what a seat pushes keeps following, as one that asked.
use Rattle.std.proofs.Common.{◌≡◌, ℕ, zero, suc, ◌+◌, ◌≤◌, ◌<◌, List, [], ◌∷◌, ◌++◌, length, Option, Some, None, Result, IfErr, OnOk, refl, ap, sym, ◌∙◌, subst, arith, append_assoc}
use mathlib.Core.Logic.{inl, inr}
use native.Mathlib.Decide.{dec_le}
use Rattle.std.specs.Prelude.{Bool, true, false, cond, nat_lt, Contains, slice_index_or}
use Rattle.std.proofs.lemmas.List.Elements.{All-head, All-tail}
use Rattle.canvas_model.specs.Change.{Change}
use Rattle.canvas_model.specs.State.{opening, done, joined}
use Rattle.canvas_model.specs.Log.{Entry, IsLegal}
use Rattle.canvas_model.specs.Numbered.{nth}
use Rattle.canvas_model.specs.Client.{Client}
use Rattle.canvas_model.specs.Messages.{Message, Ask, Idle, No}
use Rattle.canvas_model.specs.Messages as messages
use Rattle.canvas_model.specs.Receive.{NotForMe, Receives, ReceivesBy}
use Rattle.canvas_model.specs.Laws.{EachEntryStands, EachVersionIsSound}
use Rattle.canvas_judge.specs.declared.message.NoReason.TheVariants as why
use Rattle.canvas_server.specs.Served.{Served}
use Rattle.canvas_client.specs.Follow.{EachVerdictLeavesRoot}
use Rattle.canvas_board.specs.Marks.{IsLegalHistory, Mark, Opening, board, start}
use Rattle.canvas_board.proofs.Boards.{version_before}
use Rattle.canvas_nodes.specs.declared.link.LinkError.{LinkError}
use Rattle.canvas_nodes.specs.declared.link.LinkError.TheVariants as link
use Rattle.canvas_nodes.specs.Hears.{BreaksAtNews, BreaksCatching, HearsEach, HearsNews, HearsOne, HearsSome}
use Rattle.room_handler.specs.News.{copies, news_of, tells, tells_or_copies}
use Rattle.room_handler.specs.Links.{Grants, IsNo, RefusesRound}
use Rattle.room_handler.specs.Table.{IsPush, SeesOn}
use Rattle.room_handler.proofs.SeesOn.{by_catching_up, by_climbing, sees_further, while_catching_up}
use Rattle.canvas_threads.specs.Follows.{AreAllOf, AreFirstOf, FollowsLog, IsTrueFor}
use Rattle.canvas_threads.specs.Histories.{AreTrueFor, FollowsAt, OpensAfter, log_of}
use Rattle.canvas_threads.specs.Exchanges.{IsUpToDate, KeepsFollowing}
use Rattle.canvas_threads.specs.Pushes.{AreSomeOf, EachPushIsFollowed, EachPushIsNews, EachPushLeadsOn, HearsAll, PushesNext, RefusesPush, RestsAt, place_after}
use Rattle.canvas_threads.proofs.AtSeats.{either, with_headline}
use Rattle.canvas_threads.proofs.Exchanging.{at_rest, catching_broke, caught, caught_at_end, climbed, first_at, same_follows}
use Rattle.canvas_threads.proofs.Heard.{beginning, can_follow, caught_up, heard_each, heard_one}
use Rattle.canvas_threads.proofs.Histories.{Records, records}
use Rattle.canvas_threads.proofs.News.{copy_true, news_true, rest_after}
use Rattle.canvas_threads.proofs.Nexts.{all_first}
use Rattle.canvas_threads.proofs.Rounds.{follows_on, legal_at}
use Rattle.canvas_threads.proofs.Truth.{copy_taken, next_taken}

-- ---- a push is an answer without its Idle

-- a client makes nothing of an Idle
receives_idle : (client : Client) (id : Option ℕ) → ReceivesBy id client Idle NotForMe client
receives_idle client None = (refl, refl)
receives_idle client (Some c) = (refl, refl)

hears_idle : (client : Client) → HearsOne client Idle client
hears_idle client = record {
  answer = NotForMe;
  apart = (client.view, receives_idle client client.id);
  follows = λ t. receives_idle client client.id;
}

idle_stays : (old new : Client) → HearsOne old Idle new → new ≡ old
idle_stays old new h = by old.id (h.follows tt)
  where
    by : (id : Option ℕ) → ReceivesBy id old Idle h.answer new → new ≡ old
    by None r = r.1
    by (Some c) r = r.1

-- what was heard, with an Idle
with_idle : (ms : List Message) (old new : Client) → HearsEach old ms new → HearsEach old (ms ++ Idle ∷ []) new
with_idle [] old new h = (new, subst (λ (c : Client). HearsOne c Idle new) h (hears_idle new), refl)
with_idle (m ∷ ms) old new h = (h.0, h.1, with_idle ms h.0 new h.2)

two_are_no_no : (m n : Message) (ms : List Message) → IsNo (m ∷ n ∷ ms) → ⊥
two_are_no_no (No reason) n ms is = is
two_are_no_no m n ms is = is

-- an answer that ends with an Idle is no No
no_no : (ms : List Message) → IsNo (ms ++ Idle ∷ []) → ⊥
no_no [] is = is
no_no (m ∷ []) is = two_are_no_no m Idle [] is
no_no (m ∷ n ∷ ms) is = two_are_no_no m n (ms ++ Idle ∷ []) is

-- a round might have given what is pushed, with an Idle
granted : (o : Opening) (before after : List Mark) (c from : ℕ) (told : List Message) → SeesOn o before after → IsPush (board o after) c from (Some told) → Grants o before (Ask c from) (told ++ Idle ∷ []) after
granted o before after c from told sees p = ((sees, inl p.1), no_no told)

-- so it is news
pub push_is_news : (o : Opening) → EachPushIsNews o
push_is_news o before after sees c told old new id p h = (c, id, (told ++ Idle ∷ [], granted o before after c old.version told sees p, with_idle told old new h))

-- ---- one push

-- a push that was heard
pub heard_next : (o : Opening) (old : Client) (before : List Mark) (told : List Message) (new : Client) (after : List Mark) → PushesNext o old before (Some told) after → HearsEach old told new → HearsNews (Grants o) (RefusesRound o) old before new after
heard_next o old before told new after n h = push_is_news o before after n.0 n.1.0 told old new n.1.1 n.1.2 h

-- one that memory ran out for
pub broke_next : (o : Opening) (e : LinkError) (old : Client) (before : List Mark) (told : List Message) (new : Client) (after : List Mark) → PushesNext o old before (Some told) after → HearsSome old told e new → BreaksAtNews (Grants o) (RefusesRound o) e old before new after
broke_next o e old before told new after n h = (
  n.1.0,
  n.1.1,
  inr (
    told ++ Idle ∷ [],
    granted o before after n.1.0 old.version told n.0 n.1.2,
    (h.0, h.1 ++ Idle ∷ [], ap (λ (ms : List Message). ms ++ Idle ∷ []) h.2 ∙ append_assoc h.0 h.1 (Idle ∷ []), h.3, h.4),
  ),
)

-- the version never falls
version_sees : (o : Opening) (before after : List Mark) → SeesOn o before after → (board o before).version ≤ (board o after).version
version_sees o before after (inl same) = let v = ap (λ (x : List Mark). (board o x).version) same in omega arith
version_sees o before after (inr sees) = version_before (start o) before after sees.0

-- a client to which nothing is pushed, though something is published after its version, hasn't joined
pub stranger_next : (o : Opening) (old : Client) (c : ℕ) (before mid after : List Mark) → old.id ≡ Some c → SeesOn o before mid → SeesOn o mid after → old.version < (board o mid).version → IsPush (board o after) c old.version None → RefusesPush o old before (link.Refused why.Stranger) after
stranger_next o old c before mid after id first then some none = (c, id, (sees_further o before mid after first then, inr (stranger none, refl)))
  where
    stranger : IsPush (board o after) c old.version None → joined (board o after).state c ≡ false
    stranger (inl low) = let rises = version_sees o mid after then in absurd (omega (arith, some, low, rises))
    stranger (inr is) = is

-- ---- what is heard of a push

-- what is true of messages is true of each of them
true_at : (log : List Entry) (c : ℕ) (ms : List Message) → AreTrueFor log c ms → (k : ℕ) (m : Message) → k < length ms → IsTrueFor log c (slice_index_or ms k m)
true_at log c [] are k m within = absurd (omega (arith, within))
true_at log c (n ∷ ms) are zero m within = are.0
true_at log c (n ∷ ms) are (suc k) m within = true_at log c ms are.1 k m (omega (arith, within))

-- and of whatever is heard of them
some_true : (log : List Entry) (c : ℕ) (ms : List Message) → AreTrueFor log c ms → (heard : List Message) → AreSomeOf ms heard → AreTrueFor log c heard
some_true log c ms are [] some = tt
some_true log c ms are (m ∷ heard) some =
    let k = All-head (Contains ms) m heard some in
    (subst (IsTrueFor log c) k.2 (true_at log c ms are k.0 m k.1), some_true log c ms are heard (All-tail (Contains ms) m heard some))

-- ---- where a push leads

-- the place that an Idle leaves
place_idle : (from : ℕ) (ms : List Message) → place_after from (ms ++ Idle ∷ []) ≡ place_after from ms
place_idle from [] = refl
place_idle from (messages.Entry v e ∷ ms) = place_idle v ms
place_idle from (messages.Copy v n d ∷ ms) = place_idle v ms
place_idle from (m ∷ ms) = place_idle from ms

module _ (sound : EachVersionIsSound) (stands_after : EachEntryStands) (leaves : EachVerdictLeavesRoot) (log : List Entry) (legal : IsLegal opening log) (c : ℕ) (edits : List Change) (alone : AreAllOf c edits log) where
  first : AreFirstOf c edits log
  first = all_first c edits log alone

  -- each entry that comes next is taken
  told_to : (es : List Entry) (old : Client) → FollowsLog log c edits old → (from : ℕ) → from ≡ old.version → AreTrueFor log c (tells from es ++ Idle ∷ []) → (new : Client) → HearsEach old (tells from es ++ Idle ∷ []) new
      → new.version ≡ place_after from (tells from es)
  told_to [] old f from at are new h = ap (λ (x : Client). x.version) (h.2 ∙ idle_stays old h.0 h.1) ∙ sym at
  told_to (e ∷ es) old f from at are new h =
      let version : from + 1 ≡ suc old.version = omega (arith, at) in
      let receives = subst (λ (v : ℕ). Receives old (messages.Entry v e) h.1.answer h.0) version (h.1.follows (can_follow sound stands_after leaves log legal c edits first (messages.Entry (from + 1) e) are.0)) in
      let to = next_taken sound stands_after log legal c edits first alone old f e (ap (nth log) (sym version) ∙ are.0) h.1.answer h.0 receives in
      let one = heard_one sound stands_after leaves log legal c edits first old f (messages.Entry (from + 1) e) are.0 h.0 h.1 in
      told_to es h.0 one.0 (from + 1) (version ∙ sym to) are.1 new h.2

  -- and so is a copy of a later version
  copied_to : (b : Served) → Records b log → (old : Client) → FollowsLog log c edits old → old.version < b.version → (new : Client) → HearsEach old (copies b c ∷ Idle ∷ []) new → new.version ≡ b.version
  copied_to b r old f low new h =
      let to = copy_taken sound stands_after log legal c edits first alone old f b.version (done b.state c) b.state.doc (copy_true b log r c) low h.1.answer h.0 (h.1.follows tt) in
      ap (λ (x : Client). x.version) (h.2.2 ∙ idle_stays h.0 h.2.0 h.2.1) ∙ to

  -- the news of a board lead a client to where they lead its place
  news_to : (b : Served) → Records b log → (old : Client) → FollowsLog log c edits old → old.version < b.version → (new : Client) → HearsEach old (news_of b c old.version ++ Idle ∷ []) new
      → new.version ≡ place_after old.version (news_of b c old.version)
  news_to b r old f low new h = by (nat_lt old.version b.floor) refl h (news_true b log r c old.version)
    where
      by : (t : Bool) → nat_lt old.version b.floor ≡ t → HearsEach old (tells_or_copies b c old.version (cond t None (Some (rest_after b log r old.version))) ++ Idle ∷ []) new
          → AreTrueFor log c (tells_or_copies b c old.version (cond t None (Some (rest_after b log r old.version))) ++ Idle ∷ [])
          → new.version ≡ place_after old.version (tells_or_copies b c old.version (cond t None (Some (rest_after b log r old.version))))
      by true is h are = copied_to b r old f low new h
      by false is h are = told_to (rest_after b log r old.version) old f old.version refl are new h

  -- further on
  news_further : (b : Served) → Records b log → (old : Client) → FollowsLog log c edits old → old.version < b.version → (new : Client) → HearsEach old (news_of b c old.version ++ Idle ∷ []) new → old.version < new.version
  news_further b r old f low new h = by (dec_le new.version old.version)
    where
      by : Dec (new.version ≤ old.version) → old.version < new.version
      by (yes stays) = let end = caught_up sound stands_after leaves log legal c edits first alone b r old f new h stays in absurd (omega (arith, end, low, r.version))
      by (no more) = omega (arith, more)

-- ---- the laws

module _ (sound : EachVersionIsSound) (stands_after : EachEntryStands) (leaves : EachVerdictLeavesRoot) (o : Opening) where
  -- what is pushed is true of what the seat has seen
  push_true : (past : List Entry) → OpensAfter o past → (after : List Mark) → IsLegalHistory o after → (c from : ℕ) (told : List Message) → IsPush (board o after) c from (Some told) → AreTrueFor (log_of past after) c told
  push_true past opens after legal c from told p =
      beginning (log_of past after) c told (Idle ∷ [])
      (subst (AreTrueFor (log_of past after) c) (sym p.1.1) (news_true (board o after) (log_of past after) (records o past opens after legal) c from))

  pub each_push_is_followed : EachPushIsFollowed o
  each_push_is_followed before after sees c from told p heard some old new id h = λ past opens b edits f all.
      let on = follows_on sound stands_after leaves o past opens b edits before after old f sees in
      let both : Some c ≡ Some b = sym id ∙ f.follows.holds in
      let mine : c ≡ b = cc in
      let are = some_true (log_of past after) b told (subst (λ (x : ℕ). AreTrueFor (log_of past after) x told) mine (push_true past opens after on.legal c from told p)) heard some in
      let g = heard_each sound stands_after leaves (log_of past after) (legal_at sound stands_after leaves o past opens b edits after on.legal) b edits all old on.follows heard are new h in
      with_headline sound stands_after leaves o old before new after past opens b edits all (record { legal = on.legal; follows = g.0 })

  pub each_push_leads_on : EachPushLeadsOn o
  each_push_leads_on before after sees c told old new id p h = λ past opens b edits f alone.
      let on = follows_on sound stands_after leaves o past opens b edits before after old f sees in
      let legal = legal_at sound stands_after leaves o past opens b edits after on.legal in
      let r = records o past opens after on.legal in
      let both : Some c ≡ Some b = sym id ∙ f.follows.holds in
      let mine : c ≡ b = cc in
      let is : told ++ Idle ∷ [] ≡ news_of (board o after) b old.version ++ Idle ∷ [] = p.1.1 ∙ ap (λ (x : ℕ). news_of (board o after) x old.version ++ Idle ∷ []) mine in
      let news = subst (λ (ms : List Message). HearsEach old ms new) is (with_idle told old new h) in (
        news_further sound stands_after leaves (log_of past after) legal b edits alone (board o after) r old on.follows p.0 new news,
        news_to sound stands_after leaves (log_of past after) legal b edits alone (board o after) r old on.follows p.0 new news
            ∙ sym (place_idle old.version (news_of (board o after) b old.version)) ∙ ap (place_after old.version) (sym is) ∙ place_idle old.version told,
      )

  -- ---- all that is pushed

  module _ (past : List Entry) (opens : OpensAfter o past) (c : ℕ) (edits : List Change) (old : Client) (before : List Mark) (new : Client) (after : List Mark) where
    heard_all : FollowsAt o past c edits before old → AreFirstOf c edits (log_of past after) → HearsAll o old before new after → FollowsAt o past c edits after new
    heard_all f all (inl h) = caught sound stands_after leaves o past opens c edits old before new after f all h
    heard_all f all (inr (n, mid, s, up, h)) =
        let first = climbed sound stands_after leaves o past opens c edits n old before mid s f (first_at sound stands_after leaves o past opens c edits s after h.1 all) up in
        same_follows sound stands_after leaves o past opens c edits after after mid new h.0 refl (follows_on sound stands_after leaves o past opens c edits s after mid first h.1)

    -- it has come to the end of the log
    at_end : FollowsAt o past c edits before old → AreAllOf c edits (log_of past after) → (h : HearsAll o old before new after) → FollowsAt o past c edits after new → new.version ≡ length (log_of past after)
    at_end f alone (inl h) on = caught_at_end sound stands_after leaves o past opens c edits old before new after f alone h
    at_end f alone (inr (n, mid, s, up, h)) on =
        let version = ap (λ (x : Client). x.version) h.0 in
        let r = records o past opens after on.legal in
        omega (arith, version, h.2, r.version, on.follows.reached)

    rests : FollowsAt o past c edits before old → AreAllOf c edits (log_of past after) → HearsAll o old before new after → new.waiting ≡ [] → IsUpToDate o after new
    rests f alone h nothing =
        let on = heard_all f (all_first c edits (log_of past after) alone) h in
        at_rest sound stands_after leaves o past opens c edits after new on (at_end f alone h on) nothing

  module _ (old : Client) (before : List Mark) (new : Client) (after : List Mark) where
    pub keeps_hearing : {V : Type 0} (r : Result V LinkError) → OnOk r (HearsAll o old before new after) → IfErr r (λ e. BreaksCatching (Grants o) (RefusesRound o) e old before new after) → KeepsFollowing o old before new after
    keeps_hearing r ok err = λ past opens c edits f all. with_headline sound stands_after leaves o old before new after past opens c edits all
        (either (HearsAll o old before new after) (λ e. BreaksCatching (Grants o) (RefusesRound o) e old before new after) r
        (λ h. heard_all past opens c edits old before new after f all h)
        (λ e h. catching_broke sound stands_after leaves o past opens c edits e old before new after f all h) ok err)

    pub rests_at : HearsAll o old before new after → RestsAt o old before new after
    rests_at h = λ past opens c edits f alone. rests past opens c edits old before new after f alone h

-- what the seat has seen goes on
heard_sees : (o : Opening) (old : Client) (before : List Mark) (new : Client) (after : List Mark) → HearsAll o old before new after → SeesOn o before after
heard_sees o old before new after (inl h) = by_catching_up o old before new after h
heard_sees o old before new after (inr (n, mid, s, up, h)) = sees_further o before s after (by_climbing o n old before mid s up) h.1

pub hearing_sees : {V : Type 0} (o : Opening) (old : Client) (before : List Mark) (new : Client) (after : List Mark) (r : Result V LinkError)
    → OnOk r (HearsAll o old before new after) → IfErr r (λ e. BreaksCatching (Grants o) (RefusesRound o) e old before new after) → SeesOn o before after
hearing_sees o old before new after r ok err =
    either (HearsAll o old before new after) (λ e. BreaksCatching (Grants o) (RefusesRound o) e old before new after) r (λ h. heard_sees o old before new after h) (λ e h. while_catching_up o e old before new after h) ok err
