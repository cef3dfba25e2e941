-- What a client hears over a link, and what it asked before.
use Rattle.std.specs.Prelude.{◌≡◌, ◌⊎◌, ℕ, zero, suc, ◌+◌, ◌<◌, ◌≤◌, List, [], ◌∷◌, ◌++◌, Some, None, length}
use Rattle.canvas_model.specs.Client.{Client}
use Rattle.canvas_model.specs.Messages.{Message, Join, Ask}
use Rattle.canvas_model.specs.Receive.{Received, Receives}
use Rattle.canvas_client.specs.Follow.{CanFollow}
use Rattle.canvas_client.specs.Receives.{ReceivesApart, IsWaiting}
use Rattle.canvas_nodes.specs.GoesOn.{GoesOn}
use Rattle.canvas_nodes.specs.declared.link.LinkError.{LinkError}
use Rattle.canvas_nodes.specs.declared.link.LinkError.TheVariants.{Memory, NotRead}

-- The client received the message, and is what comes of it: wholly, where a document can follow the message, and but for its view otherwise.
pub record HearsOne (old : Client) (m : Message) (new : Client) : Type 0 where
  pub answer : Received
  pub apart : ReceivesApart old m answer new
  pub follows : CanFollow m → Receives old m answer new

-- the client received these messages, one after the other
abbrev pub HearsEach : Client → List Message → Client → Type 0
HearsEach old [] new = new ≡ old
HearsEach old (m ∷ ms) new = (mid : Client) × HearsOne old m mid × HearsEach mid ms new

-- the client received a beginning of these messages, and then memory was refused
abbrev pub HearsSome : Client → List Message → LinkError → Client → Type 0
HearsSome old ms e new = (heard : List Message) × (rest : List Message) × (ms ≡ heard ++ rest) × HearsEach old heard new × (e ≡ Memory)

-- What is said of rounds over a link: what it gives, from what it has seen to what it has seen afterwards, and how it fails.
module _ {L : Type 0} (Gives : L → Message → List Message → L → Type 0) (Fails : L → Message → LinkError → L → Type 0) where
  -- this was asked, the link gave an answer, and the client received each of its messages
  abbrev pub Hears : Message → Client → L → Client → L → Type 0
  Hears asked old before new after = (answer : List Message) × Gives before asked answer after × HearsEach old answer new

  -- this was asked, and the link gave no answer, or memory was refused while the client received it
  abbrev pub Breaks : Message → LinkError → Client → L → Client → L → Type 0
  Breaks asked e old before new after =
      (Fails before asked e after × (new ≡ old))
      ⊎ ((answer : List Message) × Gives before asked answer after × HearsSome old answer e new)

  -- the client sent the i-th of its edits that wait, and heard the answer
  abbrev pub HearsOfEdit : ℕ → Client → L → Client → L → Type 0
  HearsOfEdit i old before new after = (asked : Message) × IsWaiting old i asked × Hears asked old before new after

  -- it was about to, or sent it, and broke off
  abbrev pub BreaksAtEdit : ℕ → LinkError → Client → L → Client → L → Type 0
  BreaksAtEdit i e old before new after =
      ((e ≡ Memory) × (new ≡ old) × (after ≡ before))
      ⊎ ((asked : Message) × IsWaiting old i asked × Breaks asked e old before new after)

  -- the edit of this number was acknowledged by then, or it was sent, and the answer heard
  abbrev pub SendsEdit : ℕ → Client → L → Client → L → Type 0
  SendsEdit number old before new after =
      ((number ≤ old.acknowledged) × (new ≡ old) × (after ≡ before))
      ⊎ ((i : ℕ) × (number ≡ old.acknowledged + i) × HearsOfEdit i old before new after)

  -- so many edits were sent, in their order, the first of them with the number after this one; those acknowledged meanwhile were not
  abbrev pub SendsEach : ℕ → ℕ → Client → L → Client → L → Type 0
  SendsEach last zero old before new after = (new ≡ old) × (after ≡ before)
  SendsEach last (suc n) old before new after = (mid : Client) × (s : L) × SendsEach last n old before mid s × SendsEdit (last + suc n) mid s new after

  -- the client asked for what came after its version, and heard the answer
  abbrev pub HearsNews : Client → L → Client → L → Type 0
  HearsNews old before new after = (c : ℕ) × (old.id ≡ Some c) × Hears (Ask c old.version) old before new after

  -- it asked, and broke off
  abbrev pub BreaksAtNews : LinkError → Client → L → Client → L → Type 0
  BreaksAtNews e old before new after = (c : ℕ) × (old.id ≡ Some c) × Breaks (Ask c old.version) e old before new after

  -- the client asked so often for what came after its version, and each answer raised that
  abbrev pub Climbs : ℕ → Client → L → Client → L → Type 0
  Climbs zero old before new after = (new ≡ old) × (after ≡ before)
  Climbs (suc n) old before new after = (mid : Client) × (s : L) × Climbs n old before mid s × HearsNews mid s new after × (mid.version < new.version)

  -- the client asked for what came after its version until an answer didn't raise that
  abbrev pub CatchesUp : Client → L → Client → L → Type 0
  CatchesUp old before new after = (n : ℕ) × (mid : Client) × (s : L) × Climbs n old before mid s × HearsNews mid s new after × (new.version ≤ mid.version)

  -- it broke off before
  abbrev pub BreaksCatching : LinkError → Client → L → Client → L → Type 0
  BreaksCatching e old before new after = (n : ℕ) × (mid : Client) × (s : L) × Climbs n old before mid s × BreaksAtNews e mid s new after

  -- all edits that waited were sent, in their order
  abbrev pub SendsAll : Client → L → Client → L → Type 0
  SendsAll old before new after = (n : ℕ) × (n ≡ length old.waiting) × SendsEach old.acknowledged n old before new after

  -- some of them were, and then it broke off
  abbrev pub BreaksSending : LinkError → Client → L → Client → L → Type 0
  BreaksSending e old before new after =
      (n : ℕ) × (i : ℕ) × (mid : Client) × (s : L) × (n < length old.waiting) × SendsEach old.acknowledged n old before mid s
      × (old.acknowledged + suc n ≡ mid.acknowledged + i) × BreaksAtEdit i e mid s new after

  -- An exchange: all edits that waited were sent, in their order, and then the client asked until its version stayed.
  abbrev pub Exchanges : Client → L → Client → L → Type 0
  Exchanges old before new after = (mid : Client) × (s : L) × SendsAll old before mid s × CatchesUp mid s new after

  -- an exchange that broke off, while it sent or while it asked
  abbrev pub BreaksOff : LinkError → Client → L → Client → L → Type 0
  BreaksOff e old before new after =
      BreaksSending e old before new after
      ⊎ ((mid : Client) × (s : L) × SendsAll old before mid s × BreaksCatching e mid s new after)

  -- A join: an id was asked for, and the answer heard.
  abbrev pub HearsOfJoin : Client → L → Client → L → Type 0
  HearsOfJoin old before new after = Hears Join old before new after

  -- a join that broke off, or was answered without an id
  abbrev pub BreaksAtJoin : LinkError → Client → L → Client → L → Type 0
  BreaksAtJoin e old before new after =
      Breaks Join e old before new after
      ⊎ (HearsOfJoin old before new after × (new.id ≡ None) × (e ≡ NotRead))

  -- whatever the link gives, a client has gone on by each join
  pub record GoesOnByJoins : Type 0 where
    pub joins : (old : Client) (before : L) (new : Client) (after : L) → HearsOfJoin old before new after → GoesOn old new
    pub breaks : (e : LinkError) (old : Client) (before : L) (new : Client) (after : L) → BreaksAtJoin e old before new after → GoesOn old new

  -- and by each exchange
  pub record GoesOnByExchanges : Type 0 where
    pub exchanges : (old : Client) (before : L) (new : Client) (after : L) → Exchanges old before new after → GoesOn old new
    pub breaks : (e : LinkError) (old : Client) (before : L) (new : Client) (after : L) → BreaksOff e old before new after → GoesOn old new
