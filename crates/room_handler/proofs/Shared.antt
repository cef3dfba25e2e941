-- Answers out of a copy that many are sent.
use Rattle.std.proofs.Common.{◌≡◌, ◌<◌, ◌∷◌, [], ℕ, nat_lt, List, true, Option, Some, None, refl, sym, subst, arith}
use Rattle.std.specs.Prelude.{is_some}
use Rattle.std.specs.Option.{option_map, unwrap_or}
use mathlib.Core.Logic.{inl}
use Rattle.canvas_model.specs.declared.Counts.{Counts}
use Rattle.canvas_model.specs.Numbered.{nth}
use Rattle.canvas_model.specs.Messages as messages
use Rattle.canvas_model.specs.Messages.{Idle}
use Rattle.canvas_server.specs.Served.{Served}
use Rattle.canvas_wire.specs.Text.{EncodesMessage}
use Rattle.canvas_board.specs.Marks.{Mark, Opening, board}
use Rattle.canvas_nodes.specs.Answers.{AreMessageTexts, GivesTexts}
use Rattle.room_handler.specs.News.{copies}
use Rattle.room_handler.specs.Table.{AnswersAsk, Gives, SeesOn, TellsCopy, TellsTexts}
use Rattle.room_handler.proofs.Ends.{ask_whole}
use Rattle.room_handler.proofs.SeesOn.{sees_further}

-- what counts say of a client that has some
counts_told : (counts : Option Counts) (d : ℕ) → option_map (λ k. k.done) counts ≡ Some d → (is_some counts ≡ true) × (unwrap_or (option_map (λ k. k.done) counts) 0 ≡ d)
counts_told None d e = cc
counts_told (Some k) d e = (refl, cc)

-- below the floor a client that has joined is told the copy
pub copy_told : (b : Served) (client from d : ℕ) (text : List ℕ) → option_map (λ k. k.done) (nth b.state.clients client) ≡ Some d → from < b.floor → from < b.version
    → EncodesMessage text (messages.Copy b.version d b.state.doc) → TellsCopy b client from text
copy_told b client from d text counts below ahead encodes =
    let known = counts_told (nth b.state.clients client) d counts in
    let is_below : nat_lt from b.floor ≡ true = grind (arith, below) in
    (ahead, (known.0, rw is_below refl), subst (λ (n : ℕ). EncodesMessage text (messages.Copy b.version n b.state.doc)) (sym known.1) encodes)

module _ (o : Opening) (client version : ℕ) (texts : List (List ℕ)) where
  -- what the board of a history tells, whose beginning was seen
  pub told_on : (old new : List Mark) → SeesOn o old new → TellsTexts (board o new) client version texts → GivesTexts (Gives o) old (messages.Ask client version) texts new
  told_on old new sees (answer, tells, are) = (answer, (sees, inl tells), ask_whole (board o new) client version answer (inl tells), are)

  -- what is written anew of an answer by the table
  pub told_anew : (old new : List Mark) (answer : List messages.Message) → SeesOn o old new → AnswersAsk (board o new) client version answer → AreMessageTexts texts answer → GivesTexts (Gives o) old (messages.Ask client version) texts new
  told_anew old new answer sees answers are = (answer, (sees, answers), ask_whole (board o new) client version answer answers, are)

  -- what is answered after one look more
  pub told_later : (old mid new : List Mark) → SeesOn o old mid → GivesTexts (Gives o) mid (messages.Ask client version) texts new → GivesTexts (Gives o) old (messages.Ask client version) texts new
  told_later old mid new sees (answer, gives, whole, are) = (answer, (sees_further o old mid new sees gives.0, gives.1), whole, are)

  -- what is told out of a copy that is there, and an Idle
  pub copy_given : (old new : List Mark) (copy idle : List ℕ) → SeesOn o old new → TellsCopy (board o new) client version copy → EncodesMessage idle Idle → texts ≡ copy ∷ idle ∷ []
      → GivesTexts (Gives o) old (messages.Ask client version) texts new
  copy_given old new copy idle sees told said is =
      told_on old new sees (
        copies (board o new) client ∷ Idle ∷ [],
        told.1,
        subst (λ (ts : List (List ℕ)). AreMessageTexts ts (copies (board o new) client ∷ Idle ∷ [])) (sym is) (told.2, (said, tt)),
      )
