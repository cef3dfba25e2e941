-- A client that follows a log goes on to follow it by each true message, and takes the true message that comes next.
use Rattle.std.proofs.Common.{◌≡◌, ◌⊎◌, ℕ, suc, ◌≤◌, ◌<◌, List, length, refl, ap, sym, ◌∙◌, subst, arith, length-drop}
use mathlib.Core.Logic.{inl, inr}
use Rattle.std.specs.Prelude.{Option, Some}
use Rattle.canvas_model.specs.Document.{Doc}
use Rattle.canvas_model.specs.Change.{Change}
use Rattle.canvas_model.specs.State.{opening, done}
use Rattle.canvas_model.specs.Log.{Entry, IsLegal, at_version}
use Rattle.canvas_model.specs.Client.{Client, last_number}
use Rattle.canvas_model.specs.Numbered.{nth}
use Rattle.canvas_model.specs.Messages.{Message, Welcome, Idle, No}
use Rattle.canvas_model.specs.Messages as messages
use Rattle.canvas_model.specs.Receive.{Received, Receives, ReceivesBy, ReceivesWith, after_copy, after_entry, is_own}
use Rattle.canvas_model.specs.Laws.{EachEntryStands, EachVersionIsSound}
use Rattle.canvas_model.proofs.Tests.{eq_true}
use Rattle.canvas_threads.specs.Follows.{AreAllOf, AreFirstOf, FollowsLog, IsTrueFor}
use Rattle.canvas_threads.proofs.Takes.{IsCopied, IsPassed, IsPassedOver, IsTaken, copied, told}
use Rattle.canvas_threads.proofs.Nexts.{after_copied, after_next, all_waits, judged_later, judged_made, next_waits, own_next}

module _ (sound : EachVersionIsSound) (stands_after : EachEntryStands) (log : List Entry) (legal : IsLegal opening log) (c : ℕ) (edits : List Change) (all : AreFirstOf c edits log) where
  -- what a client has become that follows, and its version, which hasn't fallen
  abbrev pub GoesFurther : Client → Client → Type 0
  GoesFurther old new = FollowsLog log c edits new × (old.version ≤ new.version)

  by_id : (old : Client) → FollowsLog log c edits old → (m : Message) (answer : Received) (new : Client) → Receives old m answer new → ReceivesWith c old m answer new
  by_id old f m answer new r = subst (λ (o : Option ℕ). ReceivesBy o old m answer new) f.holds r

  pub as_before : (old : Client) → FollowsLog log c edits old → (new : Client) → new ≡ old → GoesFurther old new
  as_before old f new same = (subst (FollowsLog log c edits) (sym same) f, (let v = ap (λ (x : Client). x.version) same in omega arith))

  by_entry : (old : Client) → FollowsLog log c edits old → (v : ℕ) (e : Entry) → nth log v ≡ Some e → (new : Client) → ((new ≡ old) × IsPassed c old v e) ⊎ IsTaken c old v e new → GoesFurther old new
  by_entry old f v e here new (inl t) = as_before old f new t.0
  by_entry old f v e here new (inr t) =
      let waits = next_waits sound stands_after log legal c edits all old f e in
      let next = after_next sound stands_after log legal c edits all old f e (ap (nth log) (sym t.0) ∙ here) (is_own c e) refl (λ own. waits (t.2 own)) in
      let is : new ≡ after_entry (is_own c e) old (suc old.version) e = t.1 ∙ ap (λ (x : ℕ). after_entry (is_own c e) old x e) t.0 in
      (subst (FollowsLog log c edits) (sym is) next, (let w = ap (λ (x : Client). x.version) is in omega arith))

  by_copy : (old : Client) → FollowsLog log c edits old → (v n : ℕ) (d : Doc) → IsTrueFor log c (messages.Copy v n d) → (new : Client) → ((new ≡ old) × IsPassedOver old v n) ⊎ IsCopied old v n d new → GoesFurther old new
  by_copy old f v n d is new (inl t) = as_before old f new t.0
  by_copy old f v n d is new (inr t) =
      let rest = ap length f.waiting ∙ length-drop old.acknowledged edits in
      let next = after_copied sound stands_after log legal c edits all old f v (omega (arith, t.0)) is.0 (omega (arith, t.2, is.1, rest, f.made)) in
      let same : new ≡ after_copy old v (done (at_version log v) c) (at_version log v).doc = t.1 ∙ (λ i. after_copy old v (is.1 i) (is.2 i)) in
      (subst (FollowsLog log c edits) (sym same) next, (let w = ap (λ (x : Client). x.version) same in omega (arith, t.0)))

  -- whatever true message it receives, it follows
  pub by_message : (old : Client) → FollowsLog log c edits old → (m : Message) → IsTrueFor log c m → (answer : Received) (new : Client) → Receives old m answer new → GoesFurther old new
  by_message old f (messages.Entry v e) is answer new r = by_entry old f v e is new (told c old v e answer new (by_id old f (messages.Entry v e) answer new r))
  by_message old f (messages.Copy v n d) is answer new r = by_copy old f v n d is new (copied c old v n d answer new (by_id old f (messages.Copy v n d) answer new r))
  by_message old f (Welcome n) is answer new r = as_before old f new (by_id old f (Welcome n) answer new r).1
  by_message old f messages.Join is answer new r = as_before old f new (by_id old f messages.Join answer new r).1
  by_message old f (messages.Edit n seq change) is answer new r = as_before old f new (by_id old f (messages.Edit n seq change) answer new r).1
  by_message old f (messages.Ask n v) is answer new r = as_before old f new (by_id old f (messages.Ask n v) answer new r).1
  by_message old f Idle is answer new r = as_before old f new (by_id old f Idle answer new r).1
  by_message old f (No reason) is answer new r = as_before old f new (by_id old f (No reason) answer new r).1

  -- the entry that comes next is taken, where nobody else made an edit under the id
  pub next_taken : AreAllOf c edits log → (old : Client) → FollowsLog log c edits old → (e : Entry) → nth log (suc old.version) ≡ Some e → (answer : Received) (new : Client) → Receives old (messages.Entry (suc old.version) e) answer new → new.version ≡ suc old.version
  next_taken alone old f e here answer new r = by (told c old (suc old.version) e answer new (by_id old f (messages.Entry (suc old.version) e) answer new r))
    where
      by : ((new ≡ old) × IsPassed c old (suc old.version) e) ⊎ IsTaken c old (suc old.version) e new → new.version ≡ suc old.version
      by (inl t) =
          let why = t.1 refl in
          let mine = sym (eq_true c e.author why.0) in
          absurd (why.1 (own_next sound stands_after log legal c edits all old f e here mine (all_waits log legal c edits alone old f e here mine)))
      by (inr t) = ap (λ (x : Client). x.version) t.1

  -- and so is a true copy of a later version
  pub copy_taken : AreAllOf c edits log → (old : Client) → FollowsLog log c edits old → (v n : ℕ) (d : Doc) → IsTrueFor log c (messages.Copy v n d) → old.version < v → (answer : Received) (new : Client) → Receives old (messages.Copy v n d) answer new → new.version ≡ v
  copy_taken alone old f v n d is later answer new r = by (copied c old v n d answer new (by_id old f (messages.Copy v n d) answer new r))
    where
      why : (n < old.acknowledged) ⊎ (last_number old < n) → ⊥
      why (inl few) = let least = judged_later sound stands_after log legal c edits all old f v (omega (arith, later)) in omega (arith, is.1)
      why (inr many) =
          let few = judged_made log legal c edits alone f.given v in
          let rest = ap length f.waiting ∙ length-drop old.acknowledged edits in
          omega (arith, is.1, few, f.made)

      by : ((new ≡ old) × IsPassedOver old v n) ⊎ IsCopied old v n d new → new.version ≡ v
      by (inl t) = absurd (why (t.1 later))
      by (inr t) = ap (λ (x : Client). x.version) t.1
