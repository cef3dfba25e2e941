-- A client that follows a log goes on to the next entry, and to a copy of any later version.
use Rattle.std.proofs.Common.{◌≡◌, ℕ, zero, suc, ◌+◌, ◌-◌, ◌≤◌, ◌<◌, List, length, take, drop, refl, ap, sym, ◌∙◌, subst, arith, length-drop}
use mathlib.Core.Logic.{inl, inr}
use native.Mathlib.Decide.{ℕ_discrete, dec_le}
use Rattle.std.specs.Prelude.{Bool, true, false, Some}
use Rattle.canvas_model.specs.declared.ObjId.{ObjId}
use Rattle.canvas_model.specs.declared.Reason.TheVariants.{IsRoot, BadId}
use Rattle.canvas_model.specs.declared.Rule.TheVariants.{Two}
use Rattle.canvas_model.specs.Change.{Change, Create, object_of}
use Rattle.canvas_model.specs.Overlay.{over}
use Rattle.canvas_model.specs.State.{State, opening, done, used}
use Rattle.canvas_model.specs.Log.{Edit, Entry, Fits, FitsAs, IsLegal, What, at_version, effect}
use Rattle.canvas_model.specs.Verdict.{Created, Outcome, Verdict}
use Rattle.canvas_model.specs.Client.{Client}
use Rattle.canvas_model.specs.Numbered.{nth}
use Rattle.canvas_model.specs.Receive.{IsEdit, IsNextEdit, after_copy, after_entry, is_own, staying_past}
use Rattle.canvas_model.specs.Standing.{MeetsOwn, Stands}
use Rattle.canvas_model.specs.Good.{IsKnown}
use Rattle.canvas_model.specs.Laws.{EachEntryStands, EachVersionIsSound}
use Rattle.canvas_model.proofs.Lists.{drop-drop, first-drop, nth-drop, nth-take_inv, nth-within, nth_some}
use Rattle.canvas_model.proofs.Tests.{eq_false, eq_true, from_dec}
use Rattle.canvas_model.proofs.Log.{counted, done_apart, done_mono, done_opening, find_number, fits-take, step_at, used_mono}
use Rattle.canvas_model.proofs.Owned.{own-drop}
use Rattle.canvas_model.proofs.Deliver.{known_moves}
use Rattle.canvas_threads.proofs.Edits.{find_about}
use Rattle.canvas_threads.proofs.Takes.{granted, takes_next}
use Rattle.canvas_threads.specs.Follows.{AreAllOf, AreFirstOf, FollowsLog}

-- what was asked is an edit of this number
has_number : (edits : List Change) (what : What) (seq : ℕ) → IsEdit what (nth edits seq) → seq ≤ length edits
has_number edits what seq h = elim what as (λ w. IsEdit w (nth edits seq) → seq ≤ length edits) [
  | What.Join ↦ λ h. absurd h
  | Edit change ↦ λ h. (nth-within edits seq change h).1
] h

module _ (log : List Entry) (legal : IsLegal opening log) (c : ℕ) (edits : List Change) (alone : AreAllOf c edits log) where
  -- no more edits are judged than were made, where nobody else made one under the id
  pub judged_made : 0 < c → (v : ℕ) → done (at_version log v) c ≤ length edits
  judged_made given v = by (dec_le (done (at_version log v) c) 0)
    where
      by : Dec (done (at_version log v) c ≤ 0) → done (at_version log v) c ≤ length edits
      by (yes none) = omega (arith, none)
      by (no some) =
          let r = find_number opening (take v log) (fits-take opening log v legal.fits) c (done (at_version log v) c) given (let none = done_opening c in omega (arith, some, none)) (omega arith) in
          let here = nth-take_inv log v (suc r.place) r.entry r.stands in
          let low = has_number edits r.entry.what r.entry.seq (alone (suc r.place) r.entry here.1 r.mine) in
          omega (arith, low, r.seq)

  -- an own entry that comes next is of an edit that waits, where nobody else made one under the id
  pub all_waits : (client : Client) → FollowsLog log c edits client → (e : Entry) → nth log (suc client.version) ≡ Some e → e.author ≡ c → client.acknowledged < length edits
  all_waits client f e here mine =
      let s = step_at opening log client.version e legal.fits here in
      let count = counted (at_version log client.version) e s.0 c f.given mine in
      let a = f.acknowledged in
      let low = has_number edits e.what e.seq (alone (suc client.version) e here mine) in
      omega (arith, count.number, a, low)

-- all edits of an id are the first of it
pub all_first : (c : ℕ) (edits : List Change) (log : List Entry) → AreAllOf c edits log → AreFirstOf c edits log
all_first c edits log alone v e here mine low = alone v e here mine

module _ (sound : EachVersionIsSound) (stands_after : EachEntryStands) (log : List Entry) (legal : IsLegal opening log) (c : ℕ) (edits : List Change) (all : AreFirstOf c edits log) where
  -- the entry that comes next, where it is the client's own and an edit waits, is its next edit
  pub own_next : (client : Client) → FollowsLog log c edits client → (e : Entry) → nth log (suc client.version) ≡ Some e → e.author ≡ c → client.acknowledged < length edits → IsNextEdit client e
  own_next client f e here mine low =
      let s = step_at opening log client.version e legal.fits here in
      let count = counted (at_version log client.version) e s.0 c f.given mine in
      let a = f.acknowledged in
      let b = count.number in
      let seq : e.seq ≡ suc client.acknowledged = omega arith in
      let first : nth edits (suc client.acknowledged) ≡ nth client.waiting 1 = sym (ap (λ (l : List Change). nth l 1) f.waiting ∙ first-drop client.acknowledged edits) in
      (omega arith, subst (IsEdit e.what) (ap (nth edits) seq ∙ first) (all (suc client.version) e here mine (omega (arith, seq, low))))

  -- where an entry is the client's next edit, one waits
  pub next_waits : (client : Client) → FollowsLog log c edits client → (e : Entry) → IsNextEdit client e → client.acknowledged < length edits
  next_waits client f e next =
      let some = has_number client.waiting e.what 1 next.1 in
      let rest = ap length f.waiting ∙ length-drop client.acknowledged edits in
      omega (arith, some, rest)

  -- the entry that comes next, where it creates the object of an edit that waits, is the client's own
  meets_own : (client : Client) → FollowsLog log c edits client → (e : Entry) → nth log (suc client.version) ≡ Some e → MeetsOwn client e
  meets_own client f e here id kind ask got what outcome about = own (from_dec (ℕ_discrete e.author c) (λ other. other (author_is known)))
    where
      waits : client.acknowledged < length edits
      waits =
          let r = find_about id client.waiting about in
          let some = r.2 in
          let low = (nth-within edits (client.acknowledged + r.0) r.1 (nth-drop client.acknowledged edits r.0 r.1 (ap (λ (l : List Change). nth l r.0) (sym f.waiting) ∙ r.3))).1 in
          omega (arith, some, low)

      own : e.author ≡ c → (client.id ≡ Some e.author) × IsNextEdit client e
      own mine = (f.holds ∙ ap Some (sym mine), own_next client f e here mine waits)

      s : State
      s = at_version log client.version

      verdict : Verdict (at_version log client.version) e.author (Create id kind ask) (Created got)
      verdict = subst (λ (o : Outcome). Verdict (at_version log client.version) e.author (Create id kind ask) o) outcome
          (subst (λ (w : What). FitsAs Two (at_version log client.version) e w) what (step_at opening log client.version e legal.fits here).0).2

      author : id.client ≡ e.author
      author = from_dec (ℕ_discrete id.client e.author) (λ other. verdict.0 BadId (inl other))

      above : id.counter ≤ used (at_version log client.version) id.client → ⊥
      above low = verdict.0 BadId (inr (subst (λ (a : ℕ). id.counter ≤ used (at_version log client.version) a) author low))

      known : (i : ℕ) × IsKnown (at_version log client.version) edits i id
      known =
          let r = find_about id client.waiting about in
          let there = nth-drop client.acknowledged edits r.0 r.1 (ap (λ (l : List Change). nth l r.0) (sym f.waiting) ∙ r.3) in
          let some = r.2 in
          (client.acknowledged + r.0, subst (λ (o : ObjId). IsKnown (at_version log client.version) edits (client.acknowledged + r.0) o) r.4 (f.known (client.acknowledged + r.0) r.1 (omega arith) there))

      author_by : (i : ℕ) → IsKnown (at_version log client.version) edits i id → e.author ≡ c
      author_by i (inl is) = absurd (verdict.0 IsRoot is)
      author_by i (inr (inl low)) = absurd (above low)
      author_by i (inr (inr made)) = sym author ∙ f.own made.0 id made.2

      author_is : (i : ℕ) × IsKnown (at_version log client.version) edits i id → e.author ≡ c
      author_is k = author_by k.0 k.1

  -- the client after the entry that comes next follows, whoever made that, where one of its own is of an edit that waits
  pub after_next : (client : Client) → FollowsLog log c edits client → (e : Entry) → nth log (suc client.version) ≡ Some e → (own : Bool) → is_own c e ≡ own → (own ≡ true → client.acknowledged < length edits)
      → FollowsLog log c edits (after_entry own client (suc client.version) e)
  after_next client f e here own is waits = by own is waits
    where
      s : Fits (at_version log client.version) e × (at_version log (suc client.version) ≡ effect (at_version log client.version) e)
      s = step_at opening log client.version e legal.fits here

      now : done (at_version log (suc client.version)) c ≡ done (effect (at_version log client.version) e) c
      now = ap (λ (t : State). done t c) s.1

      low : suc client.version ≤ length log
      low = (nth-within log (suc client.version) e here).1

      standing : (own : Bool) → is_own c e ≡ own → (own ≡ true → IsNextEdit client e) → Stands (after_entry own client (suc client.version) e) (at_version log (suc client.version)).doc
      standing own is edit = subst (λ (t : State). Stands (after_entry own client (suc client.version) e) t.doc) (sym s.1)
          (stands_after (at_version log client.version) client (after_entry own client (suc client.version) e) (suc client.version) e (sound log legal client.version) (granted (at_version log client.version) e s.0)
          f.owns (meets_own client f e here) f.stands (takes_next c client e f.holds own is edit))

      knows : (i : ℕ) (change : Change) → client.acknowledged < i → nth edits i ≡ Some change → IsKnown (at_version log (suc client.version)) edits i (object_of change)
      knows i change more there = known_moves (at_version log client.version) (at_version log (suc client.version)) edits i (object_of change)
          (λ q. used_mono opening log legal.fits q client.version (suc client.version) (omega arith)) (f.known i change more there)

      by : (own : Bool) → is_own c e ≡ own → (own ≡ true → client.acknowledged < length edits) → FollowsLog log c edits (after_entry own client (suc client.version) e)
      by true is waits =
          let mine = sym (eq_true c e.author is) in
          let count = counted (at_version log client.version) e s.0 c f.given mine in
          let a = f.acknowledged in
          let b = count.now in
          let d = count.number in
          let n = now in
          record {
            holds = f.holds;
            given = f.given;
            reached = low;
            acknowledged = omega arith;
            made = let m = waits refl in omega arith;
            waiting = ap (drop 1) f.waiting ∙ drop-drop client.acknowledged 1 edits;
            stands = standing true is (λ t. own_next client f e here mine (waits refl));
            owns = λ b id. own-drop b client.counter 1 client.waiting (f.owns b id);
            own = f.own;
            known = λ i change more there. knows i change (omega arith) there;
          }
      by false is waits =
          let other = done_apart (at_version log client.version) e c (λ p. eq_false c e.author is (sym p)) in
          record {
            holds = f.holds;
            given = f.given;
            reached = low;
            acknowledged = f.acknowledged ∙ sym other ∙ sym now;
            made = f.made;
            waiting = f.waiting;
            stands = standing false is (λ t. absurd (cc));
            owns = λ b id. f.owns b id;
            own = f.own;
            known = knows;
          }

  -- an own entry that comes next is of an edit that waits, where no more edits are judged at a later version than were made
  next_judged : (client : Client) → FollowsLog log c edits client → (e : Entry) → nth log (suc client.version) ≡ Some e → (v : ℕ) → suc client.version ≤ v → done (at_version log v) c ≤ length edits → is_own c e ≡ true → client.acknowledged < length edits
  next_judged client f e here v later few own =
      let s = step_at opening log client.version e legal.fits here in
      let count = counted (at_version log client.version) e s.0 c f.given (sym (eq_true c e.author own)) in
      let now : done (at_version log (suc client.version)) c ≡ suc (done (at_version log client.version) c) = ap (λ (t : State). done t c) s.1 ∙ count.now in
      let a = f.acknowledged in
      let more = done_mono opening log legal.fits c f.given (suc client.version) v later in
      omega (arith, now, a, more, few)

  -- at each version that the log has reached since, a client follows with the same counter, where no more edits are judged there than were made
  reach : (k : ℕ) (client : Client) → FollowsLog log c edits client → (v : ℕ) → client.version + k ≡ v → v ≤ length log → done (at_version log v) c ≤ length edits
      → (later : Client) × FollowsLog log c edits later × (later.version ≡ v) × (later.counter ≡ client.counter)
  reach zero client f v at low few = (client, f, omega (arith, at), refl)
  reach (suc k) client f v at low few =
      let x = nth_some log (suc client.version) (omega arith) (omega (arith, at, low)) in
      reach k (after_entry (is_own c x.0) client (suc client.version) x.0)
      (after_next client f x.0 x.1 (is_own c x.0) refl (λ own. next_judged client f x.0 x.1 v (omega (arith, at)) few own)) v (omega (arith, at)) low few

  -- no fewer edits are judged at a later version
  pub judged_later : (client : Client) → FollowsLog log c edits client → (v : ℕ) → client.version ≤ v → client.acknowledged ≤ done (at_version log v) c
  judged_later client f v later = let a = f.acknowledged in let m = done_mono opening log legal.fits c f.given client.version v later in omega arith

  -- what waits after a copy by which so many were judged
  rest_later : (client : Client) (n : ℕ) → FollowsLog log c edits client → client.acknowledged ≤ n → staying_past client n ≡ drop n edits
  rest_later client n f more = ap (drop (n - client.acknowledged)) f.waiting ∙ drop-drop client.acknowledged (n - client.acknowledged) edits ∙ ap (λ (k : ℕ). drop k edits) (omega arith)

  -- the client after a true copy of a later version, which counts no more edits than were made, follows: it is as it would be by the entries up to there
  pub after_copied : (client : Client) → FollowsLog log c edits client → (v : ℕ) → client.version ≤ v → v ≤ length log → done (at_version log v) c ≤ length edits
      → FollowsLog log c edits (after_copy client v (done (at_version log v) c) (at_version log v).doc)
  after_copied client f v later low few =
      let r = reach (v - client.version) client f v (omega (arith, later)) low few in
      let g = r.1 in
      let version = r.2 in
      let count : r.0.acknowledged ≡ done (at_version log v) c = g.acknowledged ∙ ap (λ (x : ℕ). done (at_version log x) c) version in
      let rest : r.0.waiting ≡ staying_past client (done (at_version log v) c) =
      g.waiting ∙ ap (λ (n : ℕ). drop n edits) count ∙ sym (rest_later client (done (at_version log v) c) f (judged_later client f v later)) in
      let view : r.0.view ≡ over (at_version log v).doc (staying_past client (done (at_version log v) c)) =
      g.stands.shown ∙ (λ i. over (at_version log (version i)).doc (rest i)) in
      let id = g.holds ∙ sym f.holds in
      let counter = r.3 in
      subst (FollowsLog log c edits) (λ i. record { id = id i; counter = counter i; version = version i; acknowledged = count i; waiting = rest i; view = view i }) g
