-- What a seat says to a client that is told unasked.
use Rattle.std.specs.Prelude.{◌≡◌, ◌⊎◌, ℕ, ◌<◌, ◌≤◌, List, [], ◌∷◌, Option, None, Some}
use Rattle.serde_json.specs.Data.{Data}
use Rattle.canvas_model.specs.Messages.{Message, Idle}
use Rattle.canvas_judge.specs.declared.message.NoReason.{NoReason}
use Rattle.canvas_judge.specs.declared.message.NoReason.TheVariants as no
use Rattle.canvas_board.specs.Marks.{Mark, Opening, board}
use Rattle.canvas_board.specs.News.{HasReached}
use Rattle.canvas_live.specs.Presence.{SpellsHere, TellsHere}
use Rattle.canvas_live.specs.Word.{SpellsLive}
use Rattle.canvas_live.specs.declared.place.Place.{Place}
use Rattle.canvas_nodes.specs.Answers.{AreMessageTexts, IsUnasked, SpellsAsked, refusal_alone}
use Rattle.room_handler.specs.Seats.{SeatGives, SeatSeesOn, SeatValue}
use Rattle.room_handler.specs.Table.{IsPush}

-- A connection's seat, and from where its client is told unasked, if it is.
pub record LiveValue : Type 0 where
  pub seat : SeatValue
  pub place : Option Place

-- what a client is told unasked that was told all up to a version: a push, or nothing
abbrev pub TellsUnasked : Opening → List Mark → ℕ → ℕ → List Message → Type 0
TellsUnasked o seen client version told = (told ≡ []) ⊎ IsPush (board o seen) client version (Some told)

-- a client that wants to be told from a place is told Idle, if it has joined and the server has got so far: from then on it is told from there
abbrev pub BeginsAt : Opening → LiveValue → Place → List Message → LiveValue → Type 0
BeginsAt o old place answer new = (answer ≡ Idle ∷ []) × HasReached (board o new.seat.seen) place.client place.version × (new.place ≡ Some place)

-- otherwise it is told a No for Stranger, and its place stays
abbrev pub RefusesPlace : Opening → LiveValue → Place → List Message → LiveValue → Type 0
RefusesPlace o old place answer new =
    (answer ≡ refusal_alone no.Stranger) × (HasReached (board o new.seat.seen) place.client place.version → ⊥) × (new.place ≡ old.place)

-- what is replied to the word by which a client wants to be told unasked
abbrev pub RepliesToLive : Opening → LiveValue → List ℕ → List Message → LiveValue → Type 0
RepliesToLive o old bytes answer new =
    (place : Place) × SpellsLive bytes place × SeatSeesOn o old.seat new.seat × (BeginsAt o old place answer new ⊎ RefusesPlace o old place answer new)

-- what is replied to a message that a client sends: what the seat gives, and the place stays
abbrev pub GivesLive : Opening → LiveValue → Message → List Message → LiveValue → Type 0
GivesLive o old m answer new = SeatGives o old.seat m answer new.seat × (new.place ≡ old.place)

-- the same, as texts
abbrev pub GivesLiveInTexts : Opening → LiveValue → Message → List (List ℕ) → LiveValue → Type 0
GivesLiveInTexts o old m texts new = (answer : List Message) × GivesLive o old m answer new × AreMessageTexts texts answer

-- a client of this id is told unasked
abbrev pub IsTold : Option Place → ℕ → Type 0
IsTold place client = (p : Place) × (place ≡ Some p) × (p.client ≡ client)

-- why what a client tells of itself is refused, if its value has so many bytes: it isn't told unasked under this id, or the value is too long
abbrev pub RefusesHere : LiveValue → ℕ → ℕ → NoReason → Type 0
RefusesHere old client bytes reason =
    ((IsTold old.place client → ⊥) × (reason ≡ no.Stranger)) ⊎ (IsTold old.place client × (1024 < bytes) × (reason ≡ no.TooLarge))

-- what is replied to a text by which a client tells the others something of itself: Idle, or why it is refused. Whatever is told by it, what the
-- seat has seen and its client's place stay
abbrev pub RepliesToHere : LiveValue → List ℕ → List Message → LiveValue → Type 0
RepliesToHere old bytes answer new =
    (client : ℕ) × (value : Data) × (text : List ℕ) × (n : ℕ) × SpellsHere bytes client value × TellsHere text client value n × (new ≡ old)
    × ((IsTold old.place client × (n ≤ 1024) × (answer ≡ Idle ∷ [])) ⊎ ((reason : NoReason) × RefusesHere old client n reason × (answer ≡ refusal_alone reason)))

-- a text by which somebody tells something of itself
abbrev pub TellsSomeHere : List ℕ → Type 0
TellsSomeHere text = (client : ℕ) × (n : ℕ) × ∥ ((value : Data) × TellsHere text client value n) ∥₁

-- what is replied to other bytes: NotRead, and nothing has changed
abbrev pub RefusesBytes : LiveValue → List ℕ → List Message → LiveValue → Type 0
RefusesBytes old bytes answer new =
    ((place : Place) → SpellsLive bytes place → ⊥) × ((client : ℕ) (value : Data) → SpellsHere bytes client value → ⊥) × (answer ≡ refusal_alone no.NotRead) × (new ≡ old)

-- the seat only sees on, and its client's place stays
abbrev pub LiveSeesOn : Opening → LiveValue → LiveValue → Type 0
LiveSeesOn o old new = SeatSeesOn o old.seat new.seat × (new.place ≡ old.place)

-- want of memory is told as such, and nothing is done but to see on
abbrev pub RefusesMemory : Opening → LiveValue → List Message → LiveValue → Type 0
RefusesMemory o old answer new = (answer ≡ refusal_alone no.Memory) × LiveSeesOn o old new

-- what is replied to bytes that are no message; want of memory can be met at any
abbrev pub RepliesToWord : Opening → LiveValue → List ℕ → List Message → LiveValue → Type 0
RepliesToWord o old bytes answer new =
    RepliesToLive o old bytes answer new ⊎ RepliesToHere old bytes answer new ⊎ RefusesBytes old bytes answer new ⊎ RefusesMemory o old answer new

-- what a seat replies to bytes: to a message that a client sends, and to others; want of memory can be met at any
abbrev pub LiveReplies : Opening → LiveValue → List ℕ → List Message → LiveValue → Type 0
LiveReplies o old bytes answer new =
    ((m : Message) × SpellsAsked bytes m × GivesLive o old m answer new)
    ⊎ (IsUnasked bytes no.NotRead × RepliesToWord o old bytes answer new)
    ⊎ RefusesMemory o old answer new

-- what there is to tell a client from its place on; nothing, if it isn't told unasked
abbrev pub TellsFrom : Opening → Option Place → List Mark → List Message → Type 0
TellsFrom o None seen told = told ≡ []
TellsFrom o (Some place) seen told = TellsUnasked o seen place.client place.version told

-- what a seat tells unasked: its client's place stays, until that is told
abbrev pub LiveTells : Opening → LiveValue → List Message → LiveValue → Type 0
LiveTells o old told new = SeatSeesOn o old.seat new.seat × (new.place ≡ old.place) × TellsFrom o old.place new.seat.seen told

-- a place, moved to this version
abbrev pub moved : Option Place → ℕ → Option Place
moved None version = None
moved (Some place) version = Some (record { client = place.client; version = version })

-- its client was told all up to this version
abbrev pub LiveGoesTo : LiveValue → ℕ → LiveValue → Type 0
LiveGoesTo old version new = (new.seat ≡ old.seat) × (new.place ≡ moved old.place version)

-- it has served others, or its connection goes on at another seat of the room: its client's place stays
abbrev pub LiveServesOthers : LiveValue → LiveValue → Type 0
LiveServesOthers old new = new.place ≡ old.place
