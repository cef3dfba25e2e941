-- What is replied to a client that tells something of itself.
use Rattle.std.proofs.Common.{◌≡◌, ℕ, ◌≤◌, List, [], ◌∷◌, ◌++◌, map, Result, Ok, Err, IfErr, IfOk, MatchResult, OnErr, refl, ap}
use mathlib.Core.Logic.{◌⊎◌, inl, inr}
use Rattle.serde_json.specs.Data.{Data}
use Rattle.canvas_model.specs.Messages.{Message, Idle}
use Rattle.canvas_board.specs.Marks.{Opening}
use Rattle.canvas_judge.specs.declared.message.NoReason.{NoReason}
use Rattle.canvas_judge.specs.declared.message.NoReason.TheVariants as no
use Rattle.canvas_live.specs.Presence.{SpellsHere, TellsHere}
use Rattle.canvas_live.specs.Word.{SpellsLive}
use Rattle.canvas_live.specs.declared.place.Place.{Place}
use Rattle.canvas_nodes.specs.Answers.{AreMessageTexts, IsUnasked, SpellsAsked, refusal_alone}
use Rattle.canvas_sockets.specs.Turned.{RepliesInTexts}
use Rattle.canvas_turns.specs.Told.{AreAll}
use Rattle.room_handler.specs.Seats.{SeatSeesOn}
use Rattle.app_server.specs.Live.{BeginsAt, GivesLiveInTexts, IsTold, LiveReplies, LiveSeesOn, LiveValue, RefusesHere, RefusesPlace, RepliesToWord, TellsSomeHere}

module _ (o : Opening) (old new : LiveValue) where
  -- what stays has seen nothing more
  pub live_stays : new ≡ old → LiveSeesOn o old new
  live_stays same = ((inl (ap (λ (v : LiveValue). v.seat.seen) same), ap (λ (v : LiveValue). v.seat.limit) same), ap (λ (v : LiveValue). v.place) same)

  module _ {V : Type 0} (texts_in : V → List (List ℕ)) (bytes : List ℕ) where
    -- the word by which a client wants to be told unasked
    pub word_begun : (place : Place) → SpellsLive bytes place → (r : Result V NoReason)
        → IfOk r (λ v. AreMessageTexts (texts_in v) (Idle ∷ []) × SeatSeesOn o old.seat new.seat × BeginsAt o old place (Idle ∷ []) new)
        → IfErr r (λ reason. (reason ≡ no.Memory) ⊎ ((reason ≡ no.Stranger) × SeatSeesOn o old.seat new.seat × RefusesPlace o old place (refusal_alone reason) new)) → OnErr r (LiveSeesOn o old new)
        → MatchResult r (λ v. RepliesInTexts (RepliesToWord o) old bytes (texts_in v) new) (λ reason. RepliesToWord o old bytes (refusal_alone reason) new)
    word_begun place spells (Ok v) (are, sees, begins) h i = (Idle ∷ [], inl (place, spells, sees, inl begins), are)
    word_begun place spells (Err e) h (inl memory) stays = inr (inr (inr (ap refusal_alone memory, stays)))
    word_begun place spells (Err e) h (inr (is, sees, refuses)) stays = inl (place, spells, sees, inr refuses)

module _ {V : Type 0} (texts_in : V → List (List ℕ)) (old new : LiveValue) (bytes : List ℕ) (client : ℕ) (value : Data) (text : List ℕ) (n : ℕ)
    (spells : SpellsHere bytes client value) (tells : TellsHere text client value n) (same : new ≡ old) where
  -- it is told, or refused
  pub here_replied : (o : Opening) (r : Result V NoReason) → IfOk r (λ v. AreMessageTexts (texts_in v) (Idle ∷ []) × IsTold old.place client × (n ≤ 1024))
      → IfErr r (λ reason. (reason ≡ no.Memory) ⊎ RefusesHere old client n reason)
      → MatchResult r (λ v. RepliesInTexts (RepliesToWord o) old bytes (texts_in v) new) (λ reason. RepliesToWord o old bytes (refusal_alone reason) new)
  here_replied o (Ok v) (are, told, fits) h = (Idle ∷ [], inr (inl (client, value, text, n, spells, tells, same, inl (told, fits, refl))), are)
  here_replied o (Err e) h (inl memory) = inr (inr (inr (ap refusal_alone memory, live_stays o old new same)))
  here_replied o (Err e) h (inr refuses) = inr (inl (client, value, text, n, spells, tells, same, inr (e, refuses, refl)))

-- one text more that tells something
pub all_pushed : {V : Type 0} (text_of : V → List ℕ) (old : List V) (v : V) → TellsSomeHere (text_of v) → AreAll TellsSomeHere (map text_of old) → AreAll TellsSomeHere (map text_of (old ++ v ∷ []))
all_pushed text_of [] v tells are = (tells, tt)
all_pushed text_of (o ∷ old) v tells are = (are.0, all_pushed text_of old v tells are.1)

-- the reply to bytes that are no message
pub replied_otherwise : {V : Type 0} (texts_in : V → List (List ℕ)) (o : Opening) (old new : LiveValue) (bytes : List ℕ) → IsUnasked bytes no.NotRead → (r : Result V NoReason)
    → MatchResult r (λ v. RepliesInTexts (RepliesToWord o) old bytes (texts_in v) new) (λ e. RepliesToWord o old bytes (refusal_alone e) new)
    → MatchResult r (λ v. RepliesInTexts (LiveReplies o) old bytes (texts_in v) new) (λ e. LiveReplies o old bytes (refusal_alone e) new)
replied_otherwise texts_in o old new bytes unasked (Ok v) (answer, replies, are) = (answer, inr (inl (unasked, replies)), are)
replied_otherwise texts_in o old new bytes unasked (Err e) replies = inr (inl (unasked, replies))

-- the reply to a message that a client sends
pub replied_as_asked : {V : Type 0} (texts_in : V → List (List ℕ)) (o : Opening) (old new : LiveValue) (bytes : List ℕ) (m : Message) → SpellsAsked bytes m → (r : Result V NoReason)
    → IfOk r (λ v. GivesLiveInTexts o old m (texts_in v) new) → IfErr r (λ reason. reason ≡ no.Memory) → LiveSeesOn o old new
    → MatchResult r (λ v. RepliesInTexts (LiveReplies o) old bytes (texts_in v) new) (λ e. LiveReplies o old bytes (refusal_alone e) new)
replied_as_asked texts_in o old new bytes m spells (Ok v) (answer, gives, are) h sees = (answer, inl (m, spells, gives), are)
replied_as_asked texts_in o old new bytes m spells (Err e) h memory sees = inr (inr (ap refusal_alone memory, sees))
