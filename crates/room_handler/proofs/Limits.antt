-- What a seat under a limit of edits gives.
use Rattle.std.proofs.Common.{◌≡◌, ℕ, List, Option, None, Some, Result, Ok, Err, IfOk, refl, sym, ◌∙◌, subst}
use mathlib.Core.Logic.{inl, inr}
use Rattle.canvas_model.specs.Messages.{Message}
use Rattle.canvas_model.specs.Messages as messages
use Rattle.canvas_board.specs.Marks.{Mark, Opening, board}
use Rattle.canvas_nodes.specs.Answers.{AreMessageTexts, GivesTexts}
use Rattle.room_handler.specs.Seats.{IsOverLimit, SeatGives, SeatSeesOn, SeatValue}
use Rattle.room_handler.specs.Table.{AnswersAsk, Gives, IsAnswerToMessage, SeesOn}
use Rattle.room_handler.proofs.Ends.{ask_whole}
use Rattle.room_handler.proofs.SeesOn.{sees_further}

-- an Ask is no edit
ask_fits : (limit : Option ℕ) (client version : ℕ) → IsOverLimit limit (messages.Ask client version) → ⊥
ask_fits None client version h = h
ask_fits (Some most) client version h = h

-- the texts of what a board tells that goes on from what was seen
pub ask_answered : (o : Opening) (old new : SeatValue) (client version : ℕ) (answer : List Message) (texts : List (List ℕ)) → SeatSeesOn o old new → AnswersAsk (board o new.seen) client version answer → AreMessageTexts texts answer
    → GivesTexts (SeatGives o) old (messages.Ask client version) texts new
ask_answered o old new client version answer texts sees answers are =
    (answer, inr (ask_fits old.limit client version, (sees.0, answers), sees.1), ask_whole (board o new.seen) client version answer answers, are)

-- what a seat gives to an Ask after a look goes on from what was seen before it
given_later : (o : Opening) (old mid new : SeatValue) (client version : ℕ) (answer : List Message) → SeatSeesOn o old mid → SeatGives o mid (messages.Ask client version) answer new → SeatGives o old (messages.Ask client version) answer new
given_later o old mid new client version answer sees (inl refused) = absurd (ask_fits mid.limit client version refused.0)
given_later o old mid new client version answer sees (inr h) = inr (ask_fits old.limit client version, (sees_further o old.seen mid.seen new.seen sees.0 h.1.0, h.1.1), h.2 ∙ sees.1)

-- the same for its texts, where memory wasn't refused for them
pub texts_later : {V E : Type 0} (texts_in : V → List (List ℕ)) (o : Opening) (old mid new : SeatValue) (client version : ℕ) → SeatSeesOn o old mid → (r : Result V E) → IfOk r (λ v. GivesTexts (SeatGives o) mid (messages.Ask client version) (texts_in v) new)
    → IfOk r (λ v. GivesTexts (SeatGives o) old (messages.Ask client version) (texts_in v) new)
texts_later texts_in o old mid new client version sees (Ok v) (answer, gives, whole, are) = (answer, given_later o old mid new client version answer sees gives, whole, are)
texts_later texts_in o old mid new client version sees (Err e) h = tt

module _ (o : Opening) (limit : Option ℕ) (old new : List Mark) where
  -- the texts of what the table gives to an Ask
  pub ask_given : (client version : ℕ) (texts : List (List ℕ)) → GivesTexts (Gives o) old (messages.Ask client version) texts new
      → GivesTexts (SeatGives o) (record { seen = old; limit = limit }) (messages.Ask client version) texts (record { seen = new; limit = limit })
  ask_given client version texts (answer, gives, whole, are) = (answer, inr (ask_fits limit client version, gives, refl), whole, are)

  -- what the table gives to a message that isn't over the limit, where memory wasn't refused for it
  pub table_given : {V E : Type 0} (seen : V → List Message) (m : Message) → (IsOverLimit limit m → ⊥) → SeesOn o old new → (r : Result V E) → IfOk r (λ v. IsAnswerToMessage o old m (seen v) new)
      → IfOk r (λ v. SeatGives o (record { seen = old; limit = limit }) m (seen v) (record { seen = new; limit = limit }))
  table_given seen m fits sees (Ok v) h = inr (fits, (sees, h), refl)
  table_given seen m fits sees (Err e) h = tt

-- what is said of texts holds of the same texts in other vectors, where memory wasn't refused for them
pub texts_elsewhere : {V E : Type 0} (texts_in : V → List (List ℕ)) (P : List (List ℕ) → Type 0) (texts : List (List ℕ)) → P texts → (r : Result V E) → IfOk r (λ v. texts_in v ≡ texts) → IfOk r (λ v. P (texts_in v))
texts_elsewhere texts_in P texts p (Ok v) h = subst P (sym h) p
texts_elsewhere texts_in P texts p (Err e) h = tt
