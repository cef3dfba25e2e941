-- A client goes on by each message that it receives.
use Rattle.std.proofs.Common.{◌≡◌, ℕ, ◌+◌, ◌-◌, ◌≤◌, ◌<◌, Bool, true, false, length, drop, Option, Some, None, refl, ap, sym, ◌∙◌, subst, arith}
use Rattle.std.specs.Prelude.{◌||◌, cond, nat_le, nat_lt}
use mathlib.Core.Logic.{inl, inr}
use Rattle.std.proofs.lemmas.List.{length-drop}
use Rattle.canvas_model.specs.Document.{Doc}
use Rattle.canvas_model.specs.Log.{Join, Edit, Entry}
use Rattle.canvas_model.specs.Client.{Client, last_number, Yields}
use Rattle.canvas_model.specs.Numbered.{nth}
use Rattle.canvas_model.specs.Messages.{Message, Welcome, Idle, No}
use Rattle.canvas_model.specs.Messages as messages
use Rattle.canvas_model.specs.Receive.{Received, Took, Old, Ahead, NotForMe, IsEdit, IsNextEdit, ReceivesBy, ReceivesNext, is_own, welcomed, after_entry, after_copy}
use Rattle.canvas_model.proofs.Lists.{drop-drop, nth-within}
use Rattle.canvas_model.proofs.Tests.{le_false, lt_false}
use Rattle.canvas_client.specs.Receives.{ReceivesApart, showing}
use Rattle.canvas_nodes.specs.GoesOn.{GoesOn}

pub stays : (client : Client) → GoesOn client client
stays client = record {
  same_id = λ c is. is;
  same_counter = refl;
  same_last = refl;
  not_before = omega arith;
  rest = (0, refl);
}

pub further : (a b c : Client) → GoesOn a b → GoesOn b c → GoesOn a c
further a b c g h = record {
  same_id = λ n is. h.same_id n (g.same_id n is);
  same_counter = h.same_counter ∙ g.same_counter;
  same_last = h.same_last ∙ g.same_last;
  not_before = let p = g.not_before in let q = h.not_before in omega arith;
  rest = (g.rest.0 + h.rest.0, h.rest.1 ∙ ap (drop h.rest.0) g.rest.1 ∙ drop-drop g.rest.0 h.rest.0 a.waiting);
}

-- an own entry judges one edit that waits
first_waits : (old : Client) (e : Entry) → IsNextEdit old e → 1 ≤ length old.waiting
first_waits old e next = elim e.what as (λ w. IsEdit w (nth old.waiting 1) → 1 ≤ length old.waiting) [
  | Join ↦ λ h. absurd h
  | Edit change ↦ λ h. (nth-within old.waiting 1 change h).1
] next.1

module _ (old : Client) where
  -- the view apart, a client is one of which it is known
  shown : (new made : Client) (view : Doc) → showing view new ≡ made → GoesOn old made → GoesOn old new
  shown new made view is g =
      let h : GoesOn old (showing view new) = subst (GoesOn old) (sym is) g in
      record { same_id = h.same_id; same_counter = h.same_counter; same_last = h.same_last; not_before = h.not_before; rest = h.rest }

  goes_by_welcome : (c : ℕ) → old.id ≡ None → GoesOn old (welcomed old c)
  goes_by_welcome c none = record {
    same_id = λ n is. let f : None ≡ Some n = sym none ∙ is in absurd (cc);
    same_counter = refl;
    same_last = refl;
    not_before = omega arith;
    rest = (0, refl);
  }

  goes_by_entry : (own : Bool) (v : ℕ) (e : Entry) → old.version < v → (own ≡ true → 1 ≤ length old.waiting) → GoesOn old (after_entry own old v e)
  goes_by_entry true v e later waits = record {
    same_id = λ n is. is;
    same_counter = refl;
    same_last = let l = length-drop 1 old.waiting in let w = waits refl in omega arith;
    not_before = omega arith;
    rest = (1, refl);
  }
  goes_by_entry false v e later waits = record {
    same_id = λ n is. is;
    same_counter = refl;
    same_last = refl;
    not_before = omega arith;
    rest = (0, refl);
  }

  goes_by_copy : (v n : ℕ) (d : Doc) → old.version < v → old.acknowledged ≤ n → n ≤ last_number old → GoesOn old (after_copy old v n d)
  goes_by_copy v n d later least most = record {
    same_id = λ c is. is;
    same_counter = refl;
    same_last = let l = length-drop (n - old.acknowledged) old.waiting in omega arith;
    not_before = omega arith;
    rest = (n - old.acknowledged, refl);
  }

  module _ (new : Client) (view : Doc) (answer : Received) where
    -- nothing was made of it
    none : (said : Received) → Yields said old answer (showing view new) → GoesOn old new
    none said y = shown new old view y.1 (stays old)

    next : (own : Bool) (v : ℕ) (e : Entry) → old.version < v → ReceivesNext own old v e answer (showing view new) → GoesOn old new
    next true v e later (inl y) = shown new (after_entry true old v e) view y.1.1 (goes_by_entry true v e later (λ t. first_waits old e y.0))
    next true v e later (inr y) = none NotForMe y.1
    next false v e later y = shown new (after_entry false old v e) view y.1 (goes_by_entry false v e later (λ f. absurd (cc)))

    entry : (c v : ℕ) (e : Entry) (b a : Bool) → nat_le v old.version ≡ b → nat_lt (old.version + 1) v ≡ a
        → cond b (Yields Old old answer (showing view new)) (cond a (Yields Ahead old answer (showing view new)) (ReceivesNext (is_own c e) old v e answer (showing view new))) → GoesOn old new
    entry c v e true a old_is ahead y = none Old y
    entry c v e false true old_is ahead y = none Ahead y
    entry c v e false false old_is ahead y = next (is_own c e) v e (le_false v old.version old_is) y

    copy : (v n : ℕ) (d : Doc) (b least most : Bool) → nat_le v old.version ≡ b → nat_lt n old.acknowledged ≡ least → nat_lt (last_number old) n ≡ most
        → cond b (Yields Old old answer (showing view new)) (cond (least || most) (Yields NotForMe old answer (showing view new)) (Yields Took (after_copy old v n d) answer (showing view new))) → GoesOn old new
    copy v n d true least most old_is l m y = none Old y
    copy v n d false true most old_is l m y = none NotForMe y
    copy v n d false false true old_is l m y = none NotForMe y
    copy v n d false false false old_is l m y = shown new (after_copy old v n d) view y.1 (goes_by_copy v n d (le_false v old.version old_is) (lt_false n old.acknowledged l) (lt_false (last_number old) n m))

    by_id : (id : Option ℕ) (m : Message) → old.id ≡ id → ReceivesBy id old m answer (showing view new) → GoesOn old new
    by_id None (Welcome c) is y = shown new (welcomed old c) view y.1 (goes_by_welcome c is)
    by_id None messages.Join is y = none NotForMe y
    by_id None (messages.Edit k n change) is y = none NotForMe y
    by_id None (messages.Ask k v) is y = none NotForMe y
    by_id None (messages.Entry v e) is y = none NotForMe y
    by_id None (messages.Copy v n d) is y = none NotForMe y
    by_id None Idle is y = none NotForMe y
    by_id None (No reason) is y = none NotForMe y
    by_id (Some c) (Welcome other) is y = none Old y
    by_id (Some c) messages.Join is y = none NotForMe y
    by_id (Some c) (messages.Edit k n change) is y = none NotForMe y
    by_id (Some c) (messages.Ask k v) is y = none NotForMe y
    by_id (Some c) (messages.Entry v e) is y = entry c v e (nat_le v old.version) (nat_lt (old.version + 1) v) refl refl y
    by_id (Some c) (messages.Copy v n d) is y = copy v n d (nat_le v old.version) (nat_lt n old.acknowledged) (nat_lt (last_number old) n) refl refl refl y
    by_id (Some c) Idle is y = none NotForMe y
    by_id (Some c) (No reason) is y = none NotForMe y

-- what a client received takes it on
pub received : (old new : Client) (m : Message) (answer : Received) → ReceivesApart old m answer new → GoesOn old new
received old new m answer r = by_id old new r.0 answer old.id m refl r.1

-- the client that has gone on, as it is called now
pub as_it_is : (old mid new : Client) → GoesOn old mid → new ≡ mid → GoesOn old new
as_it_is old mid new g is = subst (GoesOn old) (sym is) g
