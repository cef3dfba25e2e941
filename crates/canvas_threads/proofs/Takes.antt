-- What a client of an id does with an entry and with a copy.
use Rattle.std.proofs.Common.{◌≡◌, ◌⊎◌, ℕ, suc, ◌+◌, ◌≤◌, ◌<◌, refl, sym, subst, arith}
use mathlib.Core.Logic.{inl, inr}
use Rattle.std.proofs.lemmas.Bool.{le-ltb, lt-leb, or_parts}
use Rattle.std.specs.Prelude.{Bool, true, false, ◌||◌, nat_le, nat_lt, Option, Some, cond}
use Rattle.canvas_model.specs.Document.{Doc}
use Rattle.canvas_model.specs.State.{State}
use Rattle.canvas_model.specs.declared.Rule.TheVariants.{Two}
use Rattle.canvas_model.specs.Log.{Edit, Entry, Fits, FitsAs, Join, What}
use Rattle.canvas_model.specs.Client.{Client, Yields, last_number}
use Rattle.canvas_model.specs.Messages as messages
use Rattle.canvas_model.specs.Receive.{Ahead, IsNextEdit, NotForMe, Old, Received, Receives, ReceivesBy, ReceivesNext, ReceivesWith, Took, after_copy, after_entry, is_own}
use Rattle.canvas_model.specs.Standing.{HasVerdict, IsGrantedAs}
use Rattle.canvas_model.proofs.Owned.{or_split}
use Rattle.canvas_model.proofs.Tests.{le_false, le_true, lt_false, lt_true}

-- what fits has a verdict
pub granted : (s : State) (e : Entry) → Fits s e → HasVerdict s e
granted s e fits = by e.what fits
  where
    by : (what : What) → FitsAs Two s e what → IsGrantedAs s e what
    by Join f = f.2
    by (Edit change) f = f.2

-- the entry that comes next is taken, where an own one is the client's next edit
pub takes_next : (c : ℕ) (client : Client) (e : Entry) → client.id ≡ Some c → (own : Bool) → is_own c e ≡ own → (own ≡ true → IsNextEdit client e)
    → Receives client (messages.Entry (suc client.version) e) Took (after_entry own client (suc client.version) e)
takes_next c client e id own is edit =
    subst (λ (o : Option ℕ). ReceivesBy o client (messages.Entry (suc client.version) e) Took (after_entry own client (suc client.version) e)) (sym id)
    (late (nat_le (suc client.version) client.version) (lt-leb (suc client.version) client.version (omega arith)))
  where
    next : (own : Bool) → (own ≡ true → IsNextEdit client e) → ReceivesNext own client (suc client.version) e Took (after_entry own client (suc client.version) e)
    next true edit = inl (edit refl, (refl, refl))
    next false edit = (refl, refl)

    early : (b : Bool) → b ≡ false → cond b (Yields Ahead client Took (after_entry own client (suc client.version) e)) (ReceivesNext (is_own c e) client (suc client.version) e Took (after_entry own client (suc client.version) e))
    early true is_not = absurd (cc)
    early false is_not = subst (λ (b : Bool). ReceivesNext b client (suc client.version) e Took (after_entry own client (suc client.version) e)) (sym is) (next own edit)

    late : (b : Bool) → b ≡ false → cond b (Yields Old client Took (after_entry own client (suc client.version) e))
        (cond (nat_lt (client.version + 1) (suc client.version)) (Yields Ahead client Took (after_entry own client (suc client.version) e)) (ReceivesNext (is_own c e) client (suc client.version) e Took (after_entry own client (suc client.version) e)))
    late true is_not = absurd (cc)
    late false is_not = early (nat_lt (client.version + 1) (suc client.version)) (le-ltb (client.version + 1) (suc client.version) (omega arith))

-- why a client doesn't take an entry: it isn't the next, or is its own and not its next edit
abbrev pub IsPassed : ℕ → Client → ℕ → Entry → Type 0
IsPassed c old v e = v ≡ suc old.version → (is_own c e ≡ true) × (IsNextEdit old e → ⊥)

-- what a client that takes an entry has become: the entry was the next, and one of its own its next edit
abbrev pub IsTaken : ℕ → Client → ℕ → Entry → Client → Type 0
IsTaken c old v e new = (v ≡ suc old.version) × (new ≡ after_entry (is_own c e) old v e) × (is_own c e ≡ true → IsNextEdit old e)

-- a client that receives an entry stays as it is, or takes it
pub told : (c : ℕ) (old : Client) (v : ℕ) (e : Entry) (answer : Received) (new : Client) → ReceivesWith c old (messages.Entry v e) answer new
    → ((new ≡ old) × IsPassed c old v e) ⊎ IsTaken c old v e new
told c old v e answer new r = late (nat_le v old.version) refl r
  where
    next : (own : Bool) → is_own c e ≡ own → v ≡ suc old.version → ReceivesNext own old v e answer new
        → ((new ≡ old) × IsPassed c old v e) ⊎ ((v ≡ suc old.version) × (new ≡ after_entry own old v e) × (own ≡ true → IsNextEdit old e))
    next true is at (inl t) = inr (at, t.1.1, λ own. t.0)
    next true is at (inr t) = inl (t.1.1, λ here. (is, t.0))
    next false is at t = inr (at, t.1, λ own. absurd (cc))

    early : (b : Bool) → nat_lt (old.version + 1) v ≡ b → old.version < v → cond b (Yields Ahead old answer new) (ReceivesNext (is_own c e) old v e answer new) → ((new ≡ old) × IsPassed c old v e) ⊎ IsTaken c old v e new
    early true is low t = inl (t.1, λ here. absurd (let far = lt_true (old.version + 1) v is in omega arith))
    early false is low t = next (is_own c e) refl (let high = lt_false (old.version + 1) v is in omega arith) t

    late : (b : Bool) → nat_le v old.version ≡ b → cond b (Yields Old old answer new) (cond (nat_lt (old.version + 1) v) (Yields Ahead old answer new) (ReceivesNext (is_own c e) old v e answer new))
        → ((new ≡ old) × IsPassed c old v e) ⊎ IsTaken c old v e new
    late true is t = inl (t.1, λ here. absurd (let past = le_true v old.version is in omega arith))
    late false is t = early (nat_lt (old.version + 1) v) refl (le_false v old.version is) t

-- why a client doesn't take a copy: it isn't of a later version, or counts fewer edits than are acknowledged, or more than were made
abbrev pub IsPassedOver : Client → ℕ → ℕ → Type 0
IsPassedOver old v n = old.version < v → (n < old.acknowledged) ⊎ (last_number old < n)

-- what a client that takes a copy has become: the copy was of a later version, and counts no more edits than were made
abbrev pub IsCopied : Client → ℕ → ℕ → Doc → Client → Type 0
IsCopied old v n d new = (old.version < v) × (new ≡ after_copy old v n d) × (n ≤ last_number old)

-- a client that receives a copy stays as it is, or takes it
pub copied : (c : ℕ) (old : Client) (v n : ℕ) (d : Doc) (answer : Received) (new : Client) → ReceivesWith c old (messages.Copy v n d) answer new → ((new ≡ old) × IsPassedOver old v n) ⊎ IsCopied old v n d new
copied c old v n d answer new r = late (nat_le v old.version) refl r
  where
    fits : (b : Bool) → (nat_lt n old.acknowledged || nat_lt (last_number old) n) ≡ b → old.version < v → cond b (Yields NotForMe old answer new) (Yields Took (after_copy old v n d) answer new)
        → ((new ≡ old) × IsPassedOver old v n) ⊎ IsCopied old v n d new
    fits true is low t = inl (t.1, λ later. by (or_split (nat_lt n old.acknowledged) (nat_lt (last_number old) n) is))
      where
        by : (nat_lt n old.acknowledged ≡ true) ⊎ (nat_lt (last_number old) n ≡ true) → (n < old.acknowledged) ⊎ (last_number old < n)
        by (inl is) = inl (lt_true n old.acknowledged is)
        by (inr is) = inr (lt_true (last_number old) n is)
    fits false is low t = inr (low, t.1, lt_false (last_number old) n (or_parts (nat_lt n old.acknowledged) (nat_lt (last_number old) n) is).1)

    late : (b : Bool) → nat_le v old.version ≡ b → cond b (Yields Old old answer new) (cond (nat_lt n old.acknowledged || nat_lt (last_number old) n) (Yields NotForMe old answer new) (Yields Took (after_copy old v n d) answer new))
        → ((new ≡ old) × IsPassedOver old v n) ⊎ IsCopied old v n d new
    late true is t = inl (t.1, λ later. absurd (let past = le_true v old.version is in omega arith))
    late false is t = fits (nat_lt n old.acknowledged || nat_lt (last_number old) n) refl (le_false v old.version is) t
