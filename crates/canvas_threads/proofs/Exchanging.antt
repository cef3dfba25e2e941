-- A client that follows what a seat has seen follows it after an exchange over a link to the seat, and is up to date where that ended.
use Rattle.std.proofs.Common.{◌≡◌, ℕ, zero, suc, ◌+◌, ◌≤◌, ◌<◌, List, [], ◌∷◌, ◌++◌, length, drop, refl, ap, sym, ◌∙◌, subst, arith, length-drop}
use mathlib.Core.Logic.{inl, inr}
use Rattle.std.specs.Prelude.{Some}
use Rattle.canvas_model.specs.Change.{Change}
use Rattle.canvas_model.specs.Overlay.{over}
use Rattle.canvas_model.specs.State.{State, opening, done}
use Rattle.canvas_model.specs.Log.{Entry, at_version, fold}
use Rattle.canvas_model.specs.Client.{Client}
use Rattle.canvas_model.specs.Messages.{Message, Ask, Idle}
use Rattle.canvas_model.specs.Laws.{EachEntryStands, EachVersionIsSound}
use Rattle.canvas_model.proofs.Log.{done_mono, take_all}
use Rattle.canvas_client.specs.Follow.{EachVerdictLeavesRoot}
use Rattle.canvas_board.specs.Marks.{IsLegalHistory, Mark, Opening, board}
use Rattle.canvas_nodes.specs.declared.link.LinkError.{LinkError}
use Rattle.canvas_nodes.specs.Hears.{BreaksAtEdit, BreaksCatching, BreaksOff, CatchesUp, Climbs, Exchanges, HearsEach, HearsNews, SendsAll, SendsEach, SendsEdit}
use Rattle.room_handler.specs.News.{news_of}
use Rattle.room_handler.specs.Table.{AnswersAsk, SeesOn}
use Rattle.room_handler.specs.Links.{Grants, IsNo, RefusesRound}
use Rattle.room_handler.proofs.SeesOn.{at_edit, by_break, by_catching_up, by_sending, while_catching_up}
use Rattle.canvas_threads.specs.Follows.{AreAllOf, AreFirstOf}
use Rattle.canvas_threads.specs.Histories.{FollowsAt, OpensAfter, log_of}
use Rattle.canvas_threads.specs.Exchanges.{IsUpToDate}
use Rattle.canvas_threads.proofs.Histories.{Records, first_before, records, seen_longer}
use Rattle.canvas_threads.proofs.Heard.{caught_up}
use Rattle.canvas_threads.proofs.Nexts.{all_first}
use Rattle.canvas_threads.proofs.Rounds.{IsAskedBy, broke, done_longer, follows_on, heard, heard_edit, legal_at}

drop_past : (n : ℕ) (xs : List Change) → length xs ≤ n → drop n xs ≡ []
drop_past zero [] few = refl
drop_past (suc n) [] few = refl
drop_past zero (x ∷ xs) few = absurd (omega (arith, few))
drop_past (suc n) (x ∷ xs) few = drop_past n xs (omega (arith, few))

module _ (sound : EachVersionIsSound) (stands_after : EachEntryStands) (leaves : EachVerdictLeavesRoot) (o : Opening) (past : List Entry) (opens : OpensAfter o past) (c : ℕ) (edits : List Change) where
  -- how many of the client's edits are judged by what a seat has seen
  abbrev judged_at : List Mark → ℕ
  judged_at seen = done (fold opening (log_of past seen)) c

  pub first_at : (before after : List Mark) → SeesOn o before after → AreFirstOf c edits (log_of past after) → AreFirstOf c edits (log_of past before)
  first_at before after sees all = first_before (log_of past before) (log_of past after) c edits (seen_longer o past before after sees) all

  more_judged : (before after : List Mark) → 0 < c → IsLegalHistory o after → SeesOn o before after → judged_at before ≤ judged_at after
  more_judged before after given legal sees = done_longer (log_of past before) (log_of past after) c given (legal_at sound stands_after leaves o past opens c edits after legal) (seen_longer o past before after sees)

  -- what is acknowledged is judged
  acknowledged_judged : (seen : List Mark) (client : Client) → FollowsAt o past c edits seen client → client.acknowledged ≤ judged_at seen
  acknowledged_judged seen client f =
      let g = f.follows in
      let mono = done_mono opening (log_of past seen) (legal_at sound stands_after leaves o past opens c edits seen f.legal).fits c g.given client.version (length (log_of past seen)) g.reached in
      let last : done (at_version (log_of past seen) (length (log_of past seen))) c ≡ judged_at seen = ap (λ (l : List Entry). done (fold opening l) c) (take_all (log_of past seen)) in
      omega (arith, g.acknowledged, mono, last)

  pub same_follows : (before after : List Mark) (old new : Client) → new ≡ old → after ≡ before → FollowsAt o past c edits before old → FollowsAt o past c edits after new
  same_follows before after old new same at f = subst (λ (x : List Mark × Client). FollowsAt o past c edits x.0 x.1) (λ i. (sym at i, sym same i)) f

  -- an edit was sent, or was acknowledged before
  sent : (number : ℕ) (old : Client) (before : List Mark) (new : Client) (after : List Mark) → FollowsAt o past c edits before old → AreFirstOf c edits (log_of past after)
      → SendsEdit (Grants o) (RefusesRound o) number old before new after → FollowsAt o past c edits after new × (number ≤ judged_at after)
  sent number old before new after f all (inl (low, same, at)) =
      let on = same_follows before after old new same at f in
      let judged = acknowledged_judged after new on in
      let count = ap (λ (x : Client). x.acknowledged) same in
      (on, omega (arith, low, judged, count))
  sent number old before new after f all (inr (i, at, h)) = heard_edit sound stands_after leaves o past opens c edits i number old before new after at f all h

  -- so many were
  sent_each : (last n : ℕ) (old : Client) (before : List Mark) (new : Client) (after : List Mark) → FollowsAt o past c edits before old → AreFirstOf c edits (log_of past after) → last ≤ judged_at before
      → SendsEach (Grants o) (RefusesRound o) last n old before new after → FollowsAt o past c edits after new × (last + n ≤ judged_at after)
  sent_each last zero old before new after f all low h =
      let count = ap judged_at h.1 in
      (same_follows before after old new h.0 h.1 f, omega (arith, low, count))
  sent_each last (suc n) old before new after f all low h =
      let sees = by_sending o (last + suc n) h.0 h.1 new after h.3 in
      let first = sent_each last n old before h.0 h.1 f (first_at h.1 after sees all) low h.2 in
      sent (last + suc n) h.0 h.1 new after first.0 all h.3

  -- all that waited were
  sent_all : (old : Client) (before : List Mark) (new : Client) (after : List Mark) → FollowsAt o past c edits before old → AreFirstOf c edits (log_of past after)
      → SendsAll (Grants o) (RefusesRound o) old before new after → FollowsAt o past c edits after new × (length edits ≤ judged_at after)
  sent_all old before new after f all h =
      let each = sent_each old.acknowledged h.0 old before new after f all (acknowledged_judged before old f) h.2 in
      let rest = ap length f.follows.waiting ∙ length-drop old.acknowledged edits in
      (each.0, omega (arith, each.1, h.1, rest, f.follows.made))

  -- an Ask was answered
  heard_news : (old : Client) (before : List Mark) (new : Client) (after : List Mark) → FollowsAt o past c edits before old → AreFirstOf c edits (log_of past after)
      → HearsNews (Grants o) (RefusesRound o) old before new after → FollowsAt o past c edits after new × (old.version ≤ new.version)
  heard_news old before new after f all h = heard sound stands_after leaves o past opens c edits (Ask h.0 old.version) old before new after (let both : Some h.0 ≡ Some c = sym h.1 ∙ f.follows.holds in cc) f all h.2

  pub climbed : (n : ℕ) (old : Client) (before : List Mark) (new : Client) (after : List Mark) → FollowsAt o past c edits before old → AreFirstOf c edits (log_of past after)
      → Climbs (Grants o) (RefusesRound o) n old before new after → FollowsAt o past c edits after new
  climbed zero old before new after f all h = same_follows before after old new h.0 h.1 f
  climbed (suc n) old before new after f all h = (heard_news h.0 h.1 new after (climbed n old before h.0 h.1 f (first_at h.1 after h.3.2.1.0.0 all) h.2) all h.3).0

  -- the last answer led it no further
  last_news : (old : Client) (before : List Mark) (new : Client) (after : List Mark) → FollowsAt o past c edits before old → AreAllOf c edits (log_of past after)
      → HearsNews (Grants o) (RefusesRound o) old before new after → new.version ≤ old.version → old.version ≡ length (log_of past after)
  last_news old before new after f alone h stays = by h.2.1.0.1
    where
      on : FollowsAt o past c edits after old
      on = follows_on sound stands_after leaves o past opens c edits before after old f h.2.1.0.0

      mine : h.0 ≡ c
      mine = let both : Some h.0 ≡ Some c = sym h.1 ∙ f.follows.holds in cc

      by : AnswersAsk (board o after) h.0 old.version h.2.0 → old.version ≡ length (log_of past after)
      by (inl t) =
          let is : h.2.0 ≡ news_of (board o after) c old.version ++ Idle ∷ [] = t.1 ∙ ap (λ (x : ℕ). news_of (board o after) x old.version ++ Idle ∷ []) mine in
          caught_up sound stands_after leaves (log_of past after) (legal_at sound stands_after leaves o past opens c edits after on.legal) c edits (all_first c edits (log_of past after) alone) alone (board o after) (records o past opens after on.legal) old on.follows new
          (subst (λ (ms : List Message). HearsEach old ms new) is h.2.2) stays
      by (inr t) = absurd (h.2.1.1 (subst IsNo (sym t.1) tt))

  pub caught : (old : Client) (before : List Mark) (new : Client) (after : List Mark) → FollowsAt o past c edits before old → AreFirstOf c edits (log_of past after)
      → CatchesUp (Grants o) (RefusesRound o) old before new after → FollowsAt o past c edits after new
  caught old before new after f all h = (heard_news h.1 h.2 new after (climbed h.0 old before h.1 h.2 f (first_at h.2 after h.4.2.1.0.0 all) h.3) all h.4).0

  -- the state at the version of a client that has come to the end of the log
  whole : (seen : List Mark) (client : Client) → client.version ≡ length (log_of past seen) → at_version (log_of past seen) client.version ≡ fold opening (log_of past seen)
  whole seen client at = ap (λ (v : ℕ). at_version (log_of past seen) v) at ∙ ap (fold opening) (take_all (log_of past seen))

  -- the client has come to the end of the log
  pub caught_at_end : (old : Client) (before : List Mark) (new : Client) (after : List Mark) → FollowsAt o past c edits before old → AreAllOf c edits (log_of past after)
      → CatchesUp (Grants o) (RefusesRound o) old before new after → new.version ≡ length (log_of past after)
  caught_at_end old before new after f alone h =
      let all = all_first c edits (log_of past after) alone in
      let mid = climbed h.0 old before h.1 h.2 f (first_at h.2 after h.4.2.1.0.0 all) h.3 in
      let last = heard_news h.1 h.2 new after mid all h.4 in
      let at = last_news h.1 h.2 new after mid alone h.4 h.5 in
      omega (arith, last.1, at, h.5)

  -- at the end of the log, with nothing waiting, it is up to date
  pub at_rest : (seen : List Mark) (client : Client) → FollowsAt o past c edits seen client → client.version ≡ length (log_of past seen) → client.waiting ≡ [] → IsUpToDate o seen client
  at_rest seen client f at nothing = record { version = at ∙ sym r.version; nothing = nothing; view = f.follows.stands.shown ∙ (λ i. over (state i).doc (nothing i)) }
    where
      r : Records (board o seen) (log_of past seen)
      r = records o past opens seen f.legal

      state : at_version (log_of past seen) client.version ≡ (board o seen).state
      state = whole seen client at ∙ sym r.state

  -- and so it is with all its edits judged
  up_to_date : (seen : List Mark) (client : Client) → FollowsAt o past c edits seen client → client.version ≡ length (log_of past seen) → length edits ≤ judged_at seen → IsUpToDate o seen client
  up_to_date seen client f at judged = at_rest seen client f at (f.follows.waiting ∙ drop_past client.acknowledged edits (let count = f.follows.acknowledged ∙ ap (λ (s : State). done s c) (whole seen client at) in omega (arith, count, judged)))

  pub exchanged : (old : Client) (before : List Mark) (new : Client) (after : List Mark) → FollowsAt o past c edits before old → AreFirstOf c edits (log_of past after)
      → Exchanges (Grants o) (RefusesRound o) old before new after → FollowsAt o past c edits after new
  exchanged old before new after f all h =
      let sees = by_catching_up o h.0 h.1 new after h.3 in
      let first = sent_all old before h.0 h.1 f (first_at h.1 after sees all) h.2 in
      caught h.0 h.1 new after first.0 all h.3

  pub exchanged_alone : (old : Client) (before : List Mark) (new : Client) (after : List Mark) → FollowsAt o past c edits before old → AreAllOf c edits (log_of past after)
      → Exchanges (Grants o) (RefusesRound o) old before new after → IsUpToDate o after new
  exchanged_alone old before new after f alone h =
      let sees = by_catching_up o h.0 h.1 new after h.3 in
      let all = all_first c edits (log_of past after) alone in
      let first = sent_all old before h.0 h.1 f (first_at h.1 after sees all) h.2 in
      let then = caught h.0 h.1 new after first.0 all h.3 in
      let more = more_judged h.1 after f.follows.given then.legal sees in
      up_to_date after new then (caught_at_end h.0 h.1 new after first.0 alone h.3) (omega (arith, first.1, more))

  edit_broke : (i : ℕ) (e : LinkError) (old : Client) (before : List Mark) (new : Client) (after : List Mark) → FollowsAt o past c edits before old → AreFirstOf c edits (log_of past after)
      → BreaksAtEdit (Grants o) (RefusesRound o) i e old before new after → FollowsAt o past c edits after new
  edit_broke i e old before new after f all (inl (memory, same, at)) = same_follows before after old new same at f
  edit_broke i e old before new after f all (inr (asked, w, h)) =
      broke sound stands_after leaves o past opens c edits asked e old before new after (subst (IsAskedBy sound stands_after leaves o past opens c edits) (sym w.4) tt) f all h

  pub catching_broke : (e : LinkError) (old : Client) (before : List Mark) (new : Client) (after : List Mark) → FollowsAt o past c edits before old → AreFirstOf c edits (log_of past after)
      → BreaksCatching (Grants o) (RefusesRound o) e old before new after → FollowsAt o past c edits after new
  catching_broke e old before new after f all (n, mid, s, up, b) =
      let sees = by_break o (Ask b.0 mid.version) e mid s new after b.2 in
      let first = climbed n old before mid s f (first_at s after sees all) up in
      broke sound stands_after leaves o past opens c edits (Ask b.0 mid.version) e mid s new after (let both : Some b.0 ≡ Some c = sym b.1 ∙ first.follows.holds in cc) first all b.2

  pub broke_off : (e : LinkError) (old : Client) (before : List Mark) (new : Client) (after : List Mark) → FollowsAt o past c edits before old → AreFirstOf c edits (log_of past after)
      → BreaksOff (Grants o) (RefusesRound o) e old before new after → FollowsAt o past c edits after new
  broke_off e old before new after f all (inl (n, i, mid, s, less, h, number, b)) =
      let sees = at_edit o i e mid s new after b in
      let first = sent_each old.acknowledged n old before mid s f (first_at s after sees all) (acknowledged_judged before old f) h in
      edit_broke i e mid s new after first.0 all b
  broke_off e old before new after f all (inr (mid, s, h, b)) =
      let sees = while_catching_up o e mid s new after b in
      let first = sent_all old before mid s f (first_at s after sees all) h in
      catching_broke e mid s new after first.0 all b
