-- What a client receives, case by case.
use Rattle.std.proofs.Common.{◌≡◌, ℕ, ◌+◌, ◌-◌, Bool, true, false, cond, List, drop, Option, Some, None, refl, ap, sym, ◌∙◌, subst, arith}
use Rattle.std.specs.Prelude.{Result, Ok, Err, OnErr}
use Rattle.canvas_model.specs.Change.{Change}
use Rattle.canvas_model.specs.Document.{Doc}
use Rattle.canvas_model.specs.Overlay.{over}
use Rattle.canvas_model.specs.View.{refreshed}
use Rattle.canvas_model.specs.Log.{Entry}
use Rattle.canvas_model.specs.Client.{Client}
use Rattle.canvas_model.specs.Messages.{Message}
use Rattle.canvas_model.specs.Receive.{Received, NotForMe, after_entry, after_copy, ReceivesBy, Receives, staying}
use Rattle.canvas_judge.specs.declared.message.DocCopy.{DocCopy}
use Rattle.canvas_judge.specs.declared.message.Message.{Message as Stored}
use Rattle.canvas_judge.specs.declared.message.Message.TheVariants as stored
use Rattle.canvas_judge.specs.Seen.{seen_message}
use Rattle.canvas_client.specs.Receives.{past, showing, ReceivesApart}

-- past an entry, and past a copy
pub past_entry : (own : Bool) (count : ℕ) (old : Client) (v : ℕ) (e : Entry) → count ≡ cond own 1 0 → past (showing (after_entry own old v e).view old) count v ≡ after_entry own old v e
past_entry true count old v e is = ap (λ n. past (showing (after_entry true old v e).view old) n v) is
past_entry false count old v e is = ap (λ n. past (showing (after_entry false old v e).view old) n v) is ∙ (λ t. record { id = old.id; counter = old.counter; version = v; acknowledged = plus_none t; waiting = old.waiting; view = (after_entry false old v e).view })
  where
    plus_none : old.acknowledged + 0 ≡ old.acknowledged
    plus_none = omega arith

-- the parts of a client past an entry or a copy
pub parts_past : (inner : Client) (view : Doc) (count v : ℕ) (rest : List Change) → rest ≡ drop count inner.waiting
    → record { id = inner.id; counter = inner.counter; version = v; acknowledged = inner.acknowledged + count; waiting = rest; view = view } ≡ past (showing view inner) count v
parts_past inner view count v rest is i = record { id = inner.id; counter = inner.counter; version = v; acknowledged = inner.acknowledged + count; waiting = is i; view = view }

-- the client as it was
pub back : (inner old : Client) (view : Doc) → inner ≡ old → view ≡ inner.view → showing view inner ≡ old
back inner old view is same = ap (λ v. showing v inner) same ∙ is

pub taken_apart : (own : Bool) (count : ℕ) (inner old new : Client) (view : Doc) (v : ℕ) (e : Entry) → count ≡ cond own 1 0 → inner ≡ old → new ≡ past (showing view inner) count v → showing (after_entry own old v e).view new ≡ after_entry own old v e
taken_apart own count inner old new view v e is same now = ap (showing (after_entry own old v e).view) now ∙ ap (λ c. past (showing (after_entry own old v e).view c) count v) same ∙ past_entry own count old v e is

pub taken_whole : (own : Bool) (count : ℕ) (inner old new : Client) (view : Doc) (v : ℕ) (e : Entry) → count ≡ cond own 1 0 → inner ≡ old → new ≡ past (showing view inner) count v
    → view ≡ refreshed own (staying own inner.waiting) e.what e.outcome inner.view → new ≡ after_entry own old v e
taken_whole own count inner old new view v e is same now shown =
    now ∙ ap (λ x. past (showing x inner) count v) shown
    ∙ ap (λ (c : Client). past (showing (refreshed own (staying own c.waiting) e.what e.outcome c.view) c) count v) same
    ∙ past_entry own count old v e is

pub copied_whole : (inner old : Client) (view d : Doc) (v n : ℕ) (rest : List Change) → inner ≡ old → rest ≡ drop (n - inner.acknowledged) inner.waiting → view ≡ over d (drop (n - inner.acknowledged) inner.waiting)
    → record { id = inner.id; counter = inner.counter; version = v; acknowledged = n; waiting = rest; view = view } ≡ after_copy old v n d
copied_whole inner old view d v n rest same waits shown =
    (λ i. record { id = inner.id; counter = inner.counter; version = v; acknowledged = n; waiting = waits i; view = shown i })
    ∙ ap (λ (c : Client). after_copy c v n d) same

pub err_any : {T E P : Type 0} (r : Result T E) → P → OnErr r P
err_any (Ok x) p = tt
err_any (Err e) p = p

-- another term for the message
pub as_message : (old new : Client) (m n : Message) (answer : Received) → m ≡ n → Receives old n answer new → Receives old m answer new
as_message old new m n answer is r = subst (λ x. Receives old x answer new) (sym is) r

pub apart_as : (old new : Client) (m n : Message) (answer : Received) → m ≡ n → ReceivesApart old n answer new → ReceivesApart old m answer new
apart_as old new m n answer is r = (r.0, as_message old (showing r.0 new) m n answer is r.1)

pub apart_now : (old new : Client) (m n : Message) (answer : Received) → m ≡ n → Receives old n answer new → ReceivesApart old m answer new
apart_now old new m n answer is r = (new.view, as_message old new m n answer is r)

-- a stored message that is none of those that may be taken
pub other_message : {A : Type 0} (old : Client) (m : Stored A) → ((c : ℕ) → m ≡ stored.Welcome c → ⊥) → ((v : ℕ) (e : Entry) → m ≡ stored.Entry v e → ⊥) → ((copy : DocCopy A) → m ≡ stored.Copy copy → ⊥) → Receives old (seen_message m) NotForMe old
other_message {A = A} old m no_id no_entry no_copy = go old.id m no_id no_entry no_copy
  where
    go : (id : Option ℕ) (m : Stored A) → ((c : ℕ) → m ≡ stored.Welcome c → ⊥) → ((v : ℕ) (e : Entry) → m ≡ stored.Entry v e → ⊥) → ((copy : DocCopy A) → m ≡ stored.Copy copy → ⊥) → ReceivesBy id old (seen_message m) NotForMe old
    go id (stored.Welcome c) a b d = absurd (a c refl)
    go id (stored.Entry v e) a b d = absurd (b v e refl)
    go id (stored.Copy copy) a b d = absurd (d copy refl)
    go None stored.Join a b d = (refl, refl)
    go (Some c) stored.Join a b d = (refl, refl)
    go None (stored.Edit k n change) a b d = (refl, refl)
    go (Some c) (stored.Edit k n change) a b d = (refl, refl)
    go None (stored.Ask k v) a b d = (refl, refl)
    go (Some c) (stored.Ask k v) a b d = (refl, refl)
    go None stored.Idle a b d = (refl, refl)
    go (Some c) stored.Idle a b d = (refl, refl)
    go None (stored.No reason) a b d = (refl, refl)
    go (Some c) (stored.No reason) a b d = (refl, refl)
