-- A client that follows a log goes on to follow it by all that it hears of it, and has caught up where an answer leads it no further.
use Rattle.std.proofs.Common.{◌≡◌, ℕ, zero, suc, ◌+◌, ◌≤◌, ◌<◌, List, [], ◌∷◌, ◌++◌, length, refl, ap, sym, ◌∙◌, subst, arith}
use native.Mathlib.Decide.{dec_le}
use Rattle.std.specs.Prelude.{Bool, true, false, cond, nat_lt, Some, None}
use Rattle.canvas_model.specs.Change.{Change}
use Rattle.canvas_model.specs.State.{opening, done}
use Rattle.canvas_model.specs.Log.{Entry, IsLegal, at_version}
use Rattle.canvas_model.specs.Client.{Client}
use Rattle.canvas_model.specs.Numbered.{nth}
use Rattle.canvas_model.specs.Messages.{Message, Welcome, Idle, No}
use Rattle.canvas_model.specs.Messages as messages
use Rattle.canvas_model.specs.Receive.{Receives}
use Rattle.canvas_model.specs.Laws.{EachEntryStands, EachVersionIsSound}
use Rattle.canvas_model.proofs.Lists.{nth_some}
use Rattle.canvas_model.proofs.Log.{step_at}
use Rattle.canvas_model.proofs.Tests.{lt_false}
use Rattle.canvas_server.specs.Served.{Served}
use Rattle.canvas_client.specs.Follow.{CanFollow, EachVerdictLeavesRoot}
use Rattle.canvas_nodes.specs.declared.link.LinkError.{LinkError}
use Rattle.canvas_nodes.specs.Hears.{HearsEach, HearsOne, HearsSome}
use Rattle.room_handler.specs.News.{copies, news_of, tells, tells_or_copies}
use Rattle.canvas_threads.specs.Follows.{AreAllOf, AreFirstOf, FollowsLog, IsTrueFor}
use Rattle.canvas_threads.specs.Histories.{AreTrueFor}
use Rattle.canvas_threads.proofs.Takes.{granted}
use Rattle.canvas_threads.proofs.Truth.{GoesFurther, as_before, by_message, copy_taken, next_taken}
use Rattle.canvas_threads.proofs.Histories.{Records}
use Rattle.canvas_threads.proofs.News.{copy_true, news_true, next_first, rest_after}

-- what is true of messages is true of the first of them
pub beginning : (log : List Entry) (c : ℕ) (heard rest : List Message) → AreTrueFor log c (heard ++ rest) → AreTrueFor log c heard
beginning log c [] rest are = tt
beginning log c (m ∷ heard) rest are = (are.0, beginning log c heard rest are.1)

module _ (sound : EachVersionIsSound) (stands_after : EachEntryStands) (leaves : EachVerdictLeavesRoot) (log : List Entry) (legal : IsLegal opening log) (c : ℕ) (edits : List Change) (all : AreFirstOf c edits log) where
  pub can_follow : (m : Message) → IsTrueFor log c m → CanFollow m
  can_follow (messages.Entry zero e) is = absurd (cc)
  can_follow (messages.Entry (suc i) e) is = leaves (at_version log i) e (sound log legal i) (granted (at_version log i) e (step_at opening log i e legal.fits is).0)
  can_follow (messages.Copy v n d) is = tt
  can_follow (Welcome n) is = tt
  can_follow messages.Join is = tt
  can_follow (messages.Edit n seq change) is = tt
  can_follow (messages.Ask n v) is = tt
  can_follow Idle is = tt
  can_follow (No reason) is = tt

  -- one true message more
  pub heard_one : (old : Client) → FollowsLog log c edits old → (m : Message) → IsTrueFor log c m → (new : Client) → HearsOne old m new → GoesFurther sound stands_after log legal c edits all old new
  heard_one old f m is new h = by_message sound stands_after log legal c edits all old f m is h.answer new (h.follows (can_follow m is))

  -- all that it heard was true
  pub heard_each : (old : Client) → FollowsLog log c edits old → (ms : List Message) → AreTrueFor log c ms → (new : Client) → HearsEach old ms new → GoesFurther sound stands_after log legal c edits all old new
  heard_each old f [] are new h = as_before sound stands_after log legal c edits all old f new h
  heard_each old f (m ∷ ms) are new h =
      let one = heard_one old f m are.0 h.0 h.1 in
      let rest = heard_each h.0 one.0 ms are.1 new h.2 in
      (rest.0, omega (arith, one.1, rest.1))

  pub heard_some : (old : Client) → FollowsLog log c edits old → (ms : List Message) → AreTrueFor log c ms → (e : LinkError) (new : Client) → HearsSome old ms e new → GoesFurther sound stands_after log legal c edits all old new
  heard_some old f ms are e new h = heard_each old f h.0 (beginning log c h.0 h.1 (subst (AreTrueFor log c) h.2 are)) new h.3

  -- where the news of a board that records the log lead it no further, it has come to the end of the log, where nobody else made an edit under its id
  pub caught_up : AreAllOf c edits log → (b : Served) → Records b log → (old : Client) → FollowsLog log c edits old → (new : Client) → HearsEach old (news_of b c old.version ++ Idle ∷ []) new → new.version ≤ old.version → old.version ≡ length log
  caught_up alone b r old f new h stays = by (dec_le (length log) old.version)
    where
      -- a copy of a later version is taken
      by_copy : old.version < length log → HearsEach old (copies b c ∷ Idle ∷ []) new → ⊥
      by_copy low h =
          let is = copy_true b log r c in
          let at = copy_taken sound stands_after log legal c edits all alone old f b.version (done b.state c) b.state.doc is (omega (arith, low, r.version)) h.1.answer h.0 (h.1.follows tt) in
          let one = heard_one old f (copies b c) is h.0 h.1 in
          let rest = heard_each h.0 one.0 (Idle ∷ []) (tt, tt) new h.2 in
          omega (arith, at, rest.1, stays, low, r.version)

      -- and so is the next entry
      by_entries : (e : Entry) (es : List Entry) → nth es 1 ≡ Some e → AreTrueFor log c (tells old.version es ++ Idle ∷ []) → HearsEach old (tells old.version es ++ Idle ∷ []) new → ⊥
      by_entries e [] first are h = absurd (cc)
      by_entries e (x ∷ es) first are h =
          let version : old.version + 1 ≡ suc old.version = omega arith in
          let receives = subst (λ (v : ℕ). Receives old (messages.Entry v x) h.1.answer h.0) version (h.1.follows (can_follow (messages.Entry (old.version + 1) x) are.0)) in
          let at = next_taken sound stands_after log legal c edits all alone old f x (ap (nth log) (sym version) ∙ are.0) h.1.answer h.0 receives in
          let one = heard_one old f (messages.Entry (old.version + 1) x) are.0 h.0 h.1 in
          let rest = heard_each h.0 one.0 (tells (old.version + 1) es ++ Idle ∷ []) are.1 new h.2 in
          omega (arith, at, rest.1, stays)

      by_tail : old.version < length log → (t : Bool) → nat_lt old.version b.floor ≡ t → HearsEach old (tells_or_copies b c old.version (cond t None (Some (rest_after b log r old.version))) ++ Idle ∷ []) new
          → AreTrueFor log c (tells_or_copies b c old.version (cond t None (Some (rest_after b log r old.version))) ++ Idle ∷ []) → ⊥
      by_tail low true is h are = by_copy low h
      by_tail low false is h are =
          let x = nth_some log (suc old.version) (omega arith) (omega (arith, low)) in
          by_entries x.0 (rest_after b log r old.version) (next_first b log r old.version (lt_false old.version b.floor is) low x.0 x.1) are h

      by : Dec (length log ≤ old.version) → old.version ≡ length log
      by (yes low) = omega (arith, low, f.reached)
      by (no more) = absurd (by_tail (omega (arith, more)) (nat_lt old.version b.floor) refl h (news_true b log r c old.version))
