-- What a client makes of a push: of what its seat publishes, without an Ask.
use Rattle.std.specs.Prelude.{◌≡◌, ◌⊎◌, ◌<◌, ◌≤◌, ℕ, Bool, true, false, List, [], ◌∷◌, All, Contains, Option, None, Some}
use Rattle.canvas_model.specs.Client.{Client}
use Rattle.canvas_model.specs.Messages.{Message, Ask}
use Rattle.canvas_model.specs.Messages as messages
use Rattle.canvas_board.specs.Marks.{Mark, Opening, board}
use Rattle.canvas_nodes.specs.declared.link.LinkError.{LinkError}
use Rattle.canvas_nodes.specs.Hears.{CatchesUp, Climbs, HearsEach, HearsNews}
use Rattle.room_handler.specs.Links.{Grants, RefusesRound}
use Rattle.room_handler.specs.Table.{IsPush, SeesOn}
use Rattle.canvas_threads.specs.Follows.{AreAllOf}
use Rattle.canvas_threads.specs.Histories.{log_of}
use Rattle.canvas_threads.specs.Exchanges.{IsUpToDate, KeepsFollowing, WhereItFollowed}

-- each of these messages is one of the whole: some of those may be missing, come late, or come more than once
abbrev pub AreSomeOf : List Message → List Message → Type 0
AreSomeOf whole some = All (Contains whole) some

-- the version up to which a client has all, if it had all up to this one and received these messages: that of the last entry or copy
abbrev pub place_after : ℕ → List Message → ℕ
place_after from [] = from
place_after from (messages.Entry v e ∷ ms) = place_after v ms
place_after from (messages.Copy v n d ∷ ms) = place_after v ms
place_after from (m ∷ ms) = place_after from ms

-- what a seat pushes to a client from its version on: nothing, if nothing is published after that
abbrev pub PushesNext : Opening → Client → List Mark → Option (List Message) → List Mark → Type 0
PushesNext o client before None after = SeesOn o before after × ((board o after).version ≤ client.version)
PushesNext o client before (Some told) after = SeesOn o before after × ((c : ℕ) × (client.id ≡ Some c) × IsPush (board o after) c client.version (Some told))

-- why a seat can't say what there is to push: an Ask from the client's version might have failed so
abbrev pub RefusesPush : Opening → Client → List Mark → LinkError → List Mark → Type 0
RefusesPush o client before e after = (c : ℕ) × (client.id ≡ Some c) × RefusesRound o before (Ask c client.version) e after

-- the client heard nothing, since nothing is published after its version
abbrev pub HearsNothing : Opening → Client → List Mark → Client → List Mark → Type 0
HearsNothing o old before new after = (new ≡ old) × SeesOn o before after × ((board o after).version ≤ old.version)

-- the client heard a push, as the news of an Ask that it might have sent; or there was none
abbrev pub HearsPush : Opening → Bool → Client → List Mark → Client → List Mark → Type 0
HearsPush o true old before new after = HearsNews (Grants o) (RefusesRound o) old before new after
HearsPush o false old before new after = HearsNothing o old before new after

-- the client heard pushes, each of which raised its version, until a push didn't raise that, or there was none
abbrev pub HearsAll : Opening → Client → List Mark → Client → List Mark → Type 0
HearsAll o old before new after =
    CatchesUp (Grants o) (RefusesRound o) old before new after
    ⊎ ((n : ℕ) × (mid : Client) × (s : List Mark) × Climbs (Grants o) (RefusesRound o) n old before mid s × HearsNothing o mid s new after)

-- a client that followed what the seat had seen is up to date, if nothing waits at it and nobody else made an edit under its id
abbrev pub RestsAt : Opening → Client → List Mark → Client → List Mark → Type 0
RestsAt o old before new after =
    WhereItFollowed o old before (λ past c edits. AreAllOf c edits (log_of past after)) (λ past c edits. new.waiting ≡ [] → IsUpToDate o after new)

-- a client that followed what the seat had seen has a higher version, and it is this one, if nobody else made an edit under its id
abbrev pub RisesTo : Opening → Client → List Mark → Client → List Mark → ℕ → Type 0
RisesTo o old before new after place =
    WhereItFollowed o old before (λ past c edits. AreAllOf c edits (log_of past after)) (λ past c edits. (old.version < new.version) × (new.version ≡ place))

-- A client keeps following by whatever it hears of a push, from whatever version that begins: in any order, with losses and repeats.
abbrev pub EachPushIsFollowed : Opening → Type 0
EachPushIsFollowed o =
    (before after : List Mark) → SeesOn o before after → (c from : ℕ) (told : List Message) → IsPush (board o after) c from (Some told)
    → (heard : List Message) → AreSomeOf told heard → (old new : Client) → old.id ≡ Some c → HearsEach old heard new → KeepsFollowing o old before new after

-- A push from the client's version on is the news of an Ask that the client might have sent.
abbrev pub EachPushIsNews : Opening → Type 0
EachPushIsNews o =
    (before after : List Mark) → SeesOn o before after → (c : ℕ) (told : List Message) (old new : Client) → old.id ≡ Some c → IsPush (board o after) c old.version (Some told)
    → HearsEach old told new → HearsNews (Grants o) (RefusesRound o) old before new after

-- It leads a client that had all up to its place to where it leads the place.
abbrev pub EachPushLeadsOn : Opening → Type 0
EachPushLeadsOn o =
    (before after : List Mark) → SeesOn o before after → (c : ℕ) (told : List Message) (old new : Client) → old.id ≡ Some c → IsPush (board o after) c old.version (Some told)
    → HearsEach old told new → RisesTo o old before new after (place_after old.version told)
