-- What a connection's seat tells.
use Rattle.std.proofs.Common.{◌≡◌, ℕ, ◌<◌, List, [], ◌∷◌, Option, None, Some, Result, Ok, Err, IfErr, refl, ap, sym, subst, ◌∙◌, map, take, arith}
use mathlib.Core.Logic.{inl, inr}
use Rattle.canvas_model.specs.Messages.{Message}
use Rattle.canvas_board.specs.Marks.{Mark, Opening, board}
use Rattle.canvas_live.specs.declared.place.Place.{Place}
use Rattle.canvas_nodes.specs.Answers.{AreMessageTexts}
use Rattle.canvas_turns.specs.Told.{TellsInTexts, version_told}
use Rattle.room_handler.specs.News.{copies}
use Rattle.room_handler.specs.Seats.{SeatSeesOn}
use Rattle.room_handler.specs.Table.{TellsCopyAt}
use Rattle.app_server.specs.Live.{LiveTells, LiveValue, TellsFrom, TellsUnasked}

-- nothing can be told from anywhere
pub tells_nothing : (o : Opening) (place : Option Place) (seen : List Mark) → TellsFrom o place seen []
tells_nothing o None seen = refl
tells_nothing o (Some place) seen = inl refl

-- if it fails, nothing is told
pub fails_after : {T E : Type 0} (o : Opening) (old new : LiveValue) (r : Result T E) → SeatSeesOn o old.seat new.seat → new.place ≡ old.place → IfErr r (λ _. LiveTells o old [] new)
fails_after o old new (Ok v) sees stays = tt
fails_after o old new (Err e) sees stays = (sees, stays, tells_nothing o old.place new.seat.seen)

-- no text tells nothing
pub told_nothing : (o : Opening) (old new : LiveValue) (texts : List (List ℕ)) (versions : List ℕ) → SeatSeesOn o old.seat new.seat → new.place ≡ old.place → texts ≡ [] → versions ≡ []
    → TellsInTexts (LiveTells o) old texts versions new
told_nothing o old new texts versions sees stays empty none =
    ([], 1, omega arith, (sees, stays, tells_nothing o old.place new.seat.seen), subst (λ (ts : List (List ℕ)). AreMessageTexts ts []) (sym empty) tt, none)

-- the text of the board's copy tells that
pub told_copy : (o : Opening) (old new : LiveValue) (place : Place) (text : List ℕ) (version : ℕ) (texts : List (List ℕ)) (versions : List ℕ) → SeatSeesOn o old.seat new.seat
    → new.place ≡ old.place → old.place ≡ Some place → TellsCopyAt (board o new.seat.seen) place.client place.version text version → texts ≡ text ∷ [] → versions ≡ version ∷ []
    → TellsInTexts (LiveTells o) old texts versions new
told_copy o old new place text version texts versions sees stays at copy is are =
    let b = board o new.seat.seen in
    let told = copies b place.client ∷ [] in (
      told,
      1,
      omega arith,
      (sees, stays, subst (λ (p : Option Place). TellsFrom o p new.seat.seen told) (sym at) (inr (copy.0.0, copy.0.1))),
      subst (λ (ts : List (List ℕ)). AreMessageTexts ts told) (sym is) (copy.0.2, tt),
      are ∙ ap (λ (v : ℕ). v ∷ []) copy.1,
    )

-- the texts of the first messages of a push, or of nothing, tell that
pub told_each : (o : Opening) (old new : LiveValue) (place : Place) (told : List Message) (n : ℕ) (texts : List (List ℕ)) (versions : List ℕ) → 0 < n → SeatSeesOn o old.seat new.seat
    → new.place ≡ old.place → old.place ≡ Some place → TellsUnasked o new.seat.seen place.client place.version told → AreMessageTexts texts (take n told) → versions ≡ map version_told (take n told)
    → TellsInTexts (LiveTells o) old texts versions new
told_each o old new place told n texts versions some sees stays at tells are each =
    (told, n, some, (sees, stays, subst (λ (p : Option Place). TellsFrom o p new.seat.seen told) (sym at) tells), are, each)
