-- What holds of every client, kept.
use Rattle.std.proofs.Common.{◌≡◌, ℕ, zero, suc, ◌+◌, ◌-◌, ◌≤◌, ◌<◌, Bool, true, false, List, [], ◌∷◌, length, drop, get_or, Option, Some, None, refl, ap, sym, ◌∙◌, subst, arith}
use Rattle.std.specs.Prelude.{◌||◌, ◌↔◌, IsTrue, cond, slice_get}
use Rattle.std.specs.List.{list_any}
use Rattle.std.proofs.lemmas.List.{length-drop}
use Rattle.canvas_model.specs.Ids.{root}
use Rattle.canvas_model.specs.Document.{Doc}
use Rattle.canvas_model.specs.Change.{Change}
use Rattle.canvas_model.specs.View.{creates_it}
use Rattle.canvas_model.specs.Log.{What, Join, Edit, Entry}
use Rattle.canvas_model.specs.Receive.{IsEdit, IsNextEdit}
use Rattle.canvas_model.specs.Client.{Client}
use Rattle.canvas_model.specs.Numbered.{nth}
use Rattle.std.specs.Option.{unwrap_or}
use Rattle.canvas_model.specs.Messages.{Message}
use Rattle.canvas_model.specs.Messages as messages
use Rattle.canvas_model.proofs.Lists.{get_some}
use Rattle.canvas_model.proofs.Owned.{own-drop}
use Rattle.canvas_client.specs.Kept.{IsKept}
use Rattle.canvas_client.specs.Receives.{IsWaiting, past}

right_false : (a b : Bool) → (a || b) ≡ false → b ≡ false
right_false true b e = absurd (cc)
right_false false b e = e

any_drop : (p : Change → Bool) (n : ℕ) (xs : List Change) → list_any p xs ≡ false → list_any p (drop n xs) ≡ false
any_drop p zero xs none = none
any_drop p (suc n) [] none = none
any_drop p (suc n) (x ∷ xs) none = any_drop p n xs (right_false (p x) (list_any p xs) none)

abbrev nothing : List Change
nothing = []

drop_none : (n : ℕ) → drop n nothing ≡ nothing
drop_none zero = refl
drop_none (suc n) = refl

pub kept_past : (client : Client) (count v : ℕ) → count ≤ length client.waiting → IsKept client → IsKept (past client count v)
kept_past client count v few k = record {
  own = λ c is. own-drop c client.counter count client.waiting (k.own c is);
  no_root = any_drop (creates_it root) count client.waiting k.no_root;
  idle = λ is. ap (drop count) (k.idle is) ∙ drop_none count;
  few = let l = length-drop count client.waiting in let h = k.few in omega arith;
}

-- the same with the edits that wait put in another way, and another view
pub kept_waits : (client : Client) (count v : ℕ) (rest : List Change) (view : Doc) → count ≤ length client.waiting → rest ≡ drop count client.waiting → IsKept client
    → IsKept (record { id = client.id; counter = client.counter; version = v; acknowledged = client.acknowledged + count; waiting = rest; view = view })
kept_waits client count v rest view few is k =
    subst (λ (l : List Change). IsKept (record { id = client.id; counter = client.counter; version = v; acknowledged = client.acknowledged + count; waiting = l; view = view })) (sym is)
    (let m = kept_past client count v few k in record { own = m.own; no_root = m.no_root; idle = m.idle; few = m.few })

pub kept_copied : (client : Client) (v n : ℕ) (rest : List Change) (view : Doc) → client.acknowledged ≤ n → n - client.acknowledged ≤ length client.waiting → rest ≡ drop (n - client.acknowledged) client.waiting → IsKept client
    → IsKept (record { id = client.id; counter = client.counter; version = v; acknowledged = n; waiting = rest; view = view })
kept_copied client v n rest view least few is k =
    let m = kept_waits client (n - client.acknowledged) v rest view few is k in
    record { own = m.own; no_root = m.no_root; idle = m.idle; few = let f = m.few in omega (arith, f, least) }

pub kept_new : (client : Client) → client.id ≡ None → client.waiting ≡ [] → client.acknowledged ≡ 0 → IsKept client
kept_new client none empty zero_yet = record {
  own = λ c is. let f : None ≡ Some c = sym none ∙ is in absurd (cc);
  no_root = ap (list_any (creates_it root)) empty;
  idle = λ is. empty;
  few = let l = ap length empty in omega arith;
}

-- the first edit that waits, where an entry is it
pub waits : (what : What) (xs : List Change) → IsEdit what (nth xs 1) → 1 ≤ length xs
waits Join xs h = absurd h
waits (Edit change) [] h = let f : None ≡ Some change = h in absurd (cc)
waits (Edit change) (x ∷ xs) h = omega arith

pub count_fits : (own : Bool) (count : ℕ) (client : Client) (e : Entry) → count ≡ cond own 1 0 → (own ≡ true → IsNextEdit client e) → count ≤ length client.waiting
count_fits true count client e is next = let h = waits e.what client.waiting (next refl).1 in omega arith
count_fits false count client e is next = omega arith

-- that edit isn't the root's creation
pub first_spares : (waiting : List Change) (e : Entry) → list_any (creates_it root) waiting ≡ false → IsEdit e.what (nth waiting 1) → (change : Change) → e.what ≡ Edit change → creates_it root change ≡ false
first_spares waiting e none next change what = go waiting none (subst (λ w. IsEdit w (nth waiting 1)) what next)
  where
    left_false : (a b : Bool) → (a || b) ≡ false → a ≡ false
    left_false true b h = absurd (cc)
    left_false false b h = refl

    go : (xs : List Change) → list_any (creates_it root) xs ≡ false → nth xs 1 ≡ Some change → creates_it root change ≡ false
    go [] none h = let f : None ≡ Some change = h in absurd (cc)
    go (x ∷ xs) none h = let p : x ≡ change = cc in ap (creates_it root) (sym p) ∙ left_false (creates_it root x) (list_any (creates_it root) xs) none

-- the test of that
pub next_is : (client : Client) (e : Entry) (change first : Change) (b : Bool) → e.what ≡ Edit change → slice_get client.waiting 0 ≡ Some first → e.seq ≡ client.acknowledged + 1 → (IsTrue b ↔ (change ≡ first)) → IsTrue b ↔ IsNextEdit client e
next_is client e change first b what there seq same = (λ t. (seq, to (same.0 t)), λ n. same.1 (fro n.1))
  where
    to : change ≡ first → IsEdit e.what (slice_get client.waiting 0)
    to p = subst (λ w. IsEdit w (slice_get client.waiting 0)) (sym what) (there ∙ ap Some (sym p))

    fro : IsEdit e.what (slice_get client.waiting 0) → change ≡ first
    fro h = let g : slice_get client.waiting 0 ≡ Some change = subst (λ w. IsEdit w (slice_get client.waiting 0)) what h in let p : Some change ≡ Some first = sym g ∙ there in cc

-- an edit that waits, as a message
pub message_waits : (client : Client) (i id : ℕ) (change : Change) (message : Message) → IsKept client → 0 < i → i ≤ length client.waiting → id ≡ unwrap_or client.id 0 → change ≡ get_or client.waiting (i - 1) change
    → message ≡ messages.Edit id (client.acknowledged + i) change → IsWaiting client i message
message_waits client i id change message k least most given there is = go client.id refl
  where
    at : (i : ℕ) → 0 < i → i ≤ length client.waiting → change ≡ get_or client.waiting (i - 1) change → nth client.waiting i ≡ Some change
    at zero least most there = absurd (omega arith)
    at (suc j) least most there = let x = get_some client.waiting j (omega arith) in x.1 ∙ ap Some (found client.waiting j x.0 x.1 ∙ ap (λ n. get_or client.waiting n change) (less j) ∙ sym there)
      where
        less : (j : ℕ) → j ≡ suc j - 1
        less j = omega arith

        found : (xs : List Change) (j : ℕ) (x : Change) → slice_get xs j ≡ Some x → x ≡ get_or xs j change
        found [] j x h = let f : None ≡ Some x = h in absurd (cc)
        found (y ∷ xs) zero x h = let p : Some y ≡ Some x = h in cc
        found (y ∷ xs) (suc j) x h = found xs j x h

    go : (o : Option ℕ) → client.id ≡ o → IsWaiting client i message
    go None e = let l = ap length (k.idle e) in absurd (omega arith)
    go (Some c) e = let same : id ≡ c = given ∙ ap (λ o. unwrap_or o 0) e in (c, change, e, at i least most there, is ∙ ap (λ n. messages.Edit n (client.acknowledged + i) change) same)
