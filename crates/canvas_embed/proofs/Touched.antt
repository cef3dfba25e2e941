-- What an entry, and an edit of a client's own, leave as it was.
use Rattle.std.proofs.Common.{◌≡◌, inl, inr, ℕ, ◌+◌, Bool, true, false, cond, nat_lt, nat_le, List, [], ◌∷◌, Option, Some, None, refl, ap, sym, subst, ◌∙◌}
use Rattle.std.specs.FinMap as map
use Rattle.std.specs.List.{Contains, list_any}
use Rattle.std.proofs.lemmas.Map.Views.{Contains-from_any}
use Rattle.canvas_model.specs.declared.ObjId.{ObjId}
use Rattle.canvas_model.specs.Ids.{same_id}
use Rattle.canvas_model.specs.declared.Kind.{Kind}
use Rattle.canvas_model.specs.Document.{Doc, Object, Place, Pos, revise, without}
use Rattle.canvas_model.specs.Change.{Change, Create, Set, Move, Delete, object_of}
use Rattle.canvas_model.specs.Overlay.{is_idle, laid, lay}
use Rattle.canvas_model.specs.Client.{Client, Yields}
use Rattle.canvas_model.specs.Local.{EditRequest, subject, Becomes, edited}
use Rattle.canvas_model.specs.Local as local
use Rattle.canvas_model.specs.Log.{What, Join, Edit, Entry}
use Rattle.canvas_model.specs.Verdict.{Outcome, Joined, Created, WasSet, Moved, Removed, Refused}
use Rattle.canvas_model.specs.View.{refreshed}
use Rattle.canvas_model.specs.Messages as messages
use Rattle.canvas_model.specs.Receive.{Received, Old, Ahead, Receives, ReceivesBy, ReceivesNext, is_own, staying, after_entry}
use Rattle.canvas_model.proofs.Ids.{same_id_true, get-revise, get-without}
use Rattle.canvas_judge.specs.declared.message.DocCopy.{DocCopy}
use Rattle.canvas_judge.specs.declared.message.Message.{Message as Stored}
use Rattle.canvas_judge.specs.declared.message.Message.TheVariants as stored
use Rattle.canvas_judge.specs.Seen.{seen_message}
use Rattle.canvas_client.specs.Asked.{HasMade, HasCreated}
use Rattle.canvas_client.specs.Placed.{HasCreatedAt, HasMovedAt}
use Rattle.canvas_client.specs.Ends.{HasCreatedThere, HasMovedThere}
use Rattle.canvas_client.specs.Follow.{CanFollow, LeavesRoot}
use Rattle.canvas_embed.specs.Changed.{ChangesOnly, touched}

-- ---- documents

-- what isn't listed isn't found in the list
not_found : (ids : List ObjId) (q : ObjId) → (Contains ids q → ⊥) → list_any (same_id q) ids ≡ false
not_found ids q out = by (list_any (same_id q) ids) refl
  where
    by : (b : Bool) → list_any (same_id q) ids ≡ b → b ≡ false
    by true e = absurd (out (Contains-from_any same_id_true q ids e))
    by false e = refl

without_only : (d : Doc) (ids : List ObjId) → ChangesOnly ids d (without d ids)
without_only d ids q out = get-without d ids q ∙ ap (λ b. cond b None (map.get d q)) (not_found ids q out)

revise_only : (d : Doc) (id : ObjId) (x : Option Object) → ChangesOnly (id ∷ []) d (revise d id x)
revise_only d id x q out = get-revise d id x q ∙ ap (λ b. cond b x (map.get d q)) (apart (same_id q id) refl)
  where
    here : same_id q id ≡ true → list_any (same_id q) (id ∷ []) ≡ true
    here e = rw e refl

    apart : (b : Bool) → same_id q id ≡ b → same_id q id ≡ false
    apart true e = absurd (out (Contains-from_any same_id_true q (id ∷ []) (here e)))
    apart false e = e

nothing_changes : (ids : List ObjId) (d : Doc) → ChangesOnly ids d d
nothing_changes ids d q out = refl

-- ---- entries

refreshed_only : (own : Bool) (staying : List Change) (what : What) (outcome : Outcome) (view : Doc) → ChangesOnly (touched what outcome) view (refreshed own staying what outcome view)
refreshed_only own staying Join outcome view = nothing_changes [] view
refreshed_only own staying (Edit (Create id kind place)) (Created got) view = revise_only view id _
refreshed_only own staying (Edit (Create id kind place)) (Refused reason stands) view = by own
  where
    by : (b : Bool) → ChangesOnly (id ∷ []) view (cond b (revise view id None) view)
    by true = revise_only view id None
    by false = nothing_changes (id ∷ []) view
refreshed_only own staying (Edit (Create id kind place)) (Joined client) view = nothing_changes (id ∷ []) view
refreshed_only own staying (Edit (Create id kind place)) WasSet view = nothing_changes (id ∷ []) view
refreshed_only own staying (Edit (Create id kind place)) (Moved got) view = nothing_changes (id ∷ []) view
refreshed_only own staying (Edit (Create id kind place)) (Removed ids) view = nothing_changes ids view
refreshed_only own staying (Edit (Set id name value)) WasSet view = revise_only view id _
refreshed_only own staying (Edit (Set id name value)) (Joined client) view = nothing_changes (id ∷ []) view
refreshed_only own staying (Edit (Set id name value)) (Created got) view = nothing_changes (id ∷ []) view
refreshed_only own staying (Edit (Set id name value)) (Moved got) view = nothing_changes (id ∷ []) view
refreshed_only own staying (Edit (Set id name value)) (Removed ids) view = nothing_changes ids view
refreshed_only own staying (Edit (Set id name value)) (Refused reason stands) view = nothing_changes (id ∷ []) view
refreshed_only own staying (Edit (Move id place)) (Moved got) view = revise_only view id _
refreshed_only own staying (Edit (Move id place)) (Refused reason (Some got)) view = revise_only view id _
refreshed_only own staying (Edit (Move id place)) (Refused reason None) view = nothing_changes (id ∷ []) view
refreshed_only own staying (Edit (Move id place)) (Joined client) view = nothing_changes (id ∷ []) view
refreshed_only own staying (Edit (Move id place)) (Created got) view = nothing_changes (id ∷ []) view
refreshed_only own staying (Edit (Move id place)) WasSet view = nothing_changes (id ∷ []) view
refreshed_only own staying (Edit (Move id place)) (Removed ids) view = nothing_changes ids view
refreshed_only own staying (Edit (Delete id)) (Removed ids) view = without_only view ids
refreshed_only own staying (Edit (Delete id)) (Joined client) view = nothing_changes (id ∷ []) view
refreshed_only own staying (Edit (Delete id)) (Created got) view = nothing_changes (id ∷ []) view
refreshed_only own staying (Edit (Delete id)) WasSet view = nothing_changes (id ∷ []) view
refreshed_only own staying (Edit (Delete id)) (Moved got) view = nothing_changes (id ∷ []) view
refreshed_only own staying (Edit (Delete id)) (Refused reason stands) view = nothing_changes (id ∷ []) view

-- a client that is the same shows the same
pub same_shown : (ids : List ObjId) (old new : Client) → new ≡ old → ChangesOnly ids old.view new.view
same_shown ids old new is q out = ap (λ (c : Client). map.get c.view q) is

received_entry : (old new : Client) (v : ℕ) (e : Entry) (answer : Received) → Receives old (messages.Entry v e) answer new → ChangesOnly (touched e.what e.outcome) old.view new.view
received_entry old new v e answer r = by old.id r
  where
    taken : (own : Bool) → new ≡ after_entry own old v e → ChangesOnly (touched e.what e.outcome) old.view new.view
    taken own is q out = ap (λ (c : Client). map.get c.view q) is ∙ refreshed_only own (staying own old.waiting) e.what e.outcome old.view q out

    next : (own : Bool) → ReceivesNext own old v e answer new → ChangesOnly (touched e.what e.outcome) old.view new.view
    next true (inl y) = taken true y.1.1
    next true (inr y) = same_shown (touched e.what e.outcome) old new y.1.1
    next false y = taken false y.1

    timed : (c : ℕ) (a b : Bool) → cond a (Yields Old old answer new) (cond b (Yields Ahead old answer new) (ReceivesNext (is_own c e) old v e answer new)) → ChangesOnly (touched e.what e.outcome) old.view new.view
    timed c true b y = same_shown (touched e.what e.outcome) old new y.1
    timed c false true y = same_shown (touched e.what e.outcome) old new y.1
    timed c false false y = next (is_own c e) y

    by : (id : Option ℕ) → ReceivesBy id old (messages.Entry v e) answer new → ChangesOnly (touched e.what e.outcome) old.view new.view
    by None y = same_shown (touched e.what e.outcome) old new y.1
    by (Some c) y = timed c (nat_le v old.version) (nat_lt (old.version + 1) v) y

pub entry_may_change : (e : Entry) (ids : List ObjId) → LeavesRoot e → ids ≡ touched e.what e.outcome → (v : ℕ) (old new : Client) (answer : Received) → (LeavesRoot e → Receives old (messages.Entry v e) answer new) → ChangesOnly ids old.view new.view
entry_may_change e ids leaves is v old new answer r = subst (λ l. ChangesOnly l old.view new.view) (sym is) (received_entry old new v e answer (r leaves))

-- ---- messages that bring no entry and no copy

pub quiet : {A : Type 0} (m : Stored A) (ids : List ObjId) → ((v : ℕ) (e : Entry) → m ≡ stored.Entry v e → ⊥) → ((copy : DocCopy A) → m ≡ stored.Copy copy → ⊥)
    → (old new : Client) (answer : Received) → (CanFollow (seen_message m) → Receives old (seen_message m) answer new) → ChangesOnly ids old.view new.view
quiet {A = A} m ids no_entry no_copy old new answer r = go old.id m no_entry no_copy r
  where
    go : (id : Option ℕ) (m : Stored A) → ((v : ℕ) (e : Entry) → m ≡ stored.Entry v e → ⊥) → ((copy : DocCopy A) → m ≡ stored.Copy copy → ⊥) → (CanFollow (seen_message m) → ReceivesBy id old (seen_message m) answer new) → ChangesOnly ids old.view new.view
    go id (stored.Entry v e) a b r = absurd (a v e refl)
    go id (stored.Copy copy) a b r = absurd (b copy refl)
    go None (stored.Welcome c) a b r = λ q out. ap (λ (client : Client). map.get client.view q) (r tt).1
    go (Some k) (stored.Welcome c) a b r = same_shown ids old new (r tt).1
    go None stored.Join a b r = same_shown ids old new (r tt).1
    go (Some k) stored.Join a b r = same_shown ids old new (r tt).1
    go None (stored.Edit k n change) a b r = same_shown ids old new (r tt).1
    go (Some c) (stored.Edit k n change) a b r = same_shown ids old new (r tt).1
    go None (stored.Ask k v) a b r = same_shown ids old new (r tt).1
    go (Some c) (stored.Ask k v) a b r = same_shown ids old new (r tt).1
    go None stored.Idle a b r = same_shown ids old new (r tt).1
    go (Some c) stored.Idle a b r = same_shown ids old new (r tt).1
    go None (stored.No reason) a b r = same_shown ids old new (r tt).1
    go (Some c) (stored.No reason) a b r = same_shown ids old new (r tt).1

-- ---- edits of a client's own

lay_only : (d : Doc) (change : Change) → ChangesOnly (object_of change ∷ []) d (lay d change)
lay_only d change = by (is_idle change)
  where
    by : (b : Bool) → ChangesOnly (object_of change ∷ []) d (cond b d (revise d (object_of change) (laid change (map.get d (object_of change)))))
    by true = nothing_changes (object_of change ∷ []) d
    by false = revise_only d (object_of change) (laid change (map.get d (object_of change)))

edited_only : (old new : Client) (change : Change) (id : ObjId) → object_of change ≡ id → new ≡ edited old change → ChangesOnly (id ∷ []) old.view new.view
edited_only old new change id of is q out =
    ap (λ (c : Client). map.get c.view q) is ∙ lay_only old.view change q (λ h. out (subst (λ i. Contains (i ∷ []) q) of h))

-- an edit that was made is of the object that the request names
subject_of : (old : Client) (c : ℕ) (r : EditRequest) (change : Change) (id : ObjId) → subject r ≡ Some id → Becomes old c r change → object_of change ≡ id
subject_of old c (local.Create kind target) change id names is = absurd (cc)
subject_of old c (local.Set at name value) change id names is = let same : at ≡ id = cc in ap object_of is ∙ same
subject_of old c (local.Clear at name) change id names is = let same : at ≡ id = cc in ap object_of is ∙ same
subject_of old c (local.Move at target) change id names (pos, lands, is) = let same : at ≡ id = cc in ap object_of is ∙ same
subject_of old c (local.Delete at) change id names is = let same : at ≡ id = cc in ap object_of is ∙ same

pub made_only : (old new : Client) (r : EditRequest) (id : ObjId) → subject r ≡ Some id → HasMade old r new → ChangesOnly (id ∷ []) old.view new.view
made_only old new r id names (change, makes, is) = edited_only old new change id (subject_of old makes.1 r change id names makes.3) is

pub created_only : (old new : Client) (r : EditRequest) (id : ObjId) → HasCreated old r id new → ChangesOnly (id ∷ []) old.view new.view
created_only old new r id (kind, place, makes, is) = edited_only old new (Create id kind place) id refl is

-- ---- edits at places

pub created_at_only : (old new : Client) (kind : Kind) (place : Place) (id : ObjId) → HasCreatedAt old kind place id new → ChangesOnly (id ∷ []) old.view new.view
created_at_only old new kind place id (makes, is) = edited_only old new (Create id kind place) id refl is

pub moved_at_only : (old new : Client) (id : ObjId) (place : Place) → HasMovedAt old id place new → ChangesOnly (id ∷ []) old.view new.view
moved_at_only old new id place (makes, is) = edited_only old new (Move id place) id refl is

pub created_there_only : (Lies : Doc → ObjId → ObjId → Option Pos → Type 0) (old new : Client) (kind : Kind) (parent id : ObjId) → HasCreatedThere Lies old kind parent id new → ChangesOnly (id ∷ []) old.view new.view
created_there_only Lies old new kind parent id (pos, lies, has) = created_at_only old new kind (record { parent = parent; pos = pos }) id has

pub moved_there_only : (Lies : Doc → ObjId → ObjId → Option Pos → Type 0) (old new : Client) (id parent : ObjId) → HasMovedThere Lies old id parent new → ChangesOnly (id ∷ []) old.view new.view
moved_there_only Lies old new id parent (pos, lies, has) = moved_at_only old new id (record { parent = parent; pos = pos }) has
