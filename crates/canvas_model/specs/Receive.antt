-- What a client does with each message: from its own data and the message alone.
use Rattle.std.specs.Prelude.{◌≡◌, ◌⊎◌, ◌||◌, ◌==◌, ℕ, ◌+◌, ◌-◌, Bool, true, false, cond, List, drop, Option, Some, None, nat_lt, nat_le}
use Rattle.canvas_model.specs.Document.{Doc}
use Rattle.canvas_model.specs.Change.{Change}
use Rattle.canvas_model.specs.Overlay.{over}
use Rattle.canvas_model.specs.Log.{What, Join, Edit, Entry}
use Rattle.canvas_model.specs.View.{refreshed}
use Rattle.canvas_model.specs.Messages as messages
use Rattle.canvas_model.specs.Messages.{Message, Welcome}
use Rattle.canvas_model.specs.Client.{Client, last_number, Yields}
use Rattle.canvas_model.specs.Numbered.{nth}

-- a client's answer to a message
pub data Received : Type 0 where
  Took : Received
  Old : Received
  Ahead : Received
  NotForMe : Received

-- the client with this id
abbrev pub welcomed : Client → ℕ → Client
welcomed client c = record client { id = Some c }

-- the edits that stay: an own entry takes the first
abbrev pub staying : Bool → List Change → List Change
staying own waiting = cond own (drop 1 waiting) waiting

-- the client after the entry of this version; `own` says that the entry is its own next one
abbrev pub after_entry : Bool → Client → ℕ → Entry → Client
after_entry own client v e = record {
  id = client.id;
  counter = client.counter;
  version = v;
  acknowledged = cond own (client.acknowledged + 1) client.acknowledged;
  waiting = staying own client.waiting;
  view = refreshed own (staying own client.waiting) e.what e.outcome client.view;
}

-- the edits that stay after a copy by which n were judged
abbrev pub staying_past : Client → ℕ → List Change
staying_past client n = drop (n - client.acknowledged) client.waiting

-- the client after a copy of this version, by which n of its edits were judged
abbrev pub after_copy : Client → ℕ → ℕ → Doc → Client
after_copy client v n copy = record {
  id = client.id;
  counter = client.counter;
  version = v;
  acknowledged = n;
  waiting = staying_past client n;
  view = over copy (staying_past client n);
}

-- the entry is one of the client with id c
abbrev pub is_own : ℕ → Entry → Bool
is_own c e = c == e.author

-- what was asked is this change
abbrev pub IsEdit : What → Option Change → Type 0
IsEdit Join change = ⊥
IsEdit (Edit what) change = change ≡ Some what

-- the entry has the number and the change of the first edit that waits
abbrev pub IsNextEdit : Client → Entry → Type 0
IsNextEdit client e = (e.seq ≡ client.acknowledged + 1) × IsEdit e.what (nth client.waiting 1)

-- an entry of the next version: one of its own must be its next edit
abbrev pub ReceivesNext : Bool → Client → ℕ → Entry → Received → Client → Type 0
ReceivesNext true old v e answer new = IsNextEdit old e × Yields Took (after_entry true old v e) answer new ⊎ (IsNextEdit old e → ⊥) × Yields NotForMe old answer new
ReceivesNext false old v e answer new = Yields Took (after_entry false old v e) answer new

-- a message that reaches a client with id c
abbrev pub ReceivesWith : ℕ → Client → Message → Received → Client → Type 0
ReceivesWith c old (Welcome other) answer new = Yields Old old answer new
ReceivesWith c old (messages.Entry v e) answer new =
    cond (nat_le v old.version) (Yields Old old answer new)
    (cond (nat_lt (old.version + 1) v) (Yields Ahead old answer new)
    (ReceivesNext (is_own c e) old v e answer new))
ReceivesWith c old (messages.Copy v n copy) answer new =
    cond (nat_le v old.version) (Yields Old old answer new)
    (cond (nat_lt n old.acknowledged || nat_lt (last_number old) n) (Yields NotForMe old answer new)
    (Yields Took (after_copy old v n copy) answer new))
ReceivesWith c old _ answer new = Yields NotForMe old answer new

-- a message that reaches one without an id
abbrev pub ReceivesWithout : Client → Message → Received → Client → Type 0
ReceivesWithout old (Welcome c) answer new = Yields Took (welcomed old c) answer new
ReceivesWithout old _ answer new = Yields NotForMe old answer new

-- a message that reaches a client, by the id that it holds
abbrev pub ReceivesBy : Option ℕ → Client → Message → Received → Client → Type 0
ReceivesBy None old message answer new = ReceivesWithout old message answer new
ReceivesBy (Some c) old message answer new = ReceivesWith c old message answer new

-- what a client answers a message, and what it is afterwards
abbrev pub Receives : Client → Message → Received → Client → Type 0
Receives old message answer new = ReceivesBy old.id old message answer new
