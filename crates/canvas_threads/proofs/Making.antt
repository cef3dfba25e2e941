-- A client that follows a log follows it after an edit of its own.
use Rattle.std.proofs.Common.{◌≡◌, ◌⊎◌, ℕ, suc, ◌+◌, ◌<◌, List, [], ◌∷◌, ◌++◌, length, refl, ap, sym, ◌∙◌, subst, arith, length-append}
use mathlib.Core.Logic.{inl, inr}
use Rattle.std.specs.Prelude.{true, Some}
use Rattle.canvas_model.specs.declared.ObjId.{ObjId}
use Rattle.canvas_model.specs.declared.Kind.{Kind}
use Rattle.canvas_model.specs.Document.{Doc, Place, live}
use Rattle.canvas_model.specs.Change.{Change, Create, Delete, object_of}
use Rattle.canvas_model.specs.State.{State, opening}
use Rattle.canvas_model.specs.Log.{Entry, IsLegal, at_version}
use Rattle.canvas_model.specs.Client.{Client}
use Rattle.canvas_model.specs.Numbered.{nth}
use Rattle.canvas_model.specs.Local.{Becomes, EditRequest, Makes, edited}
use Rattle.canvas_model.specs.Local as local
use Rattle.canvas_model.specs.Standing.{OwnsWaiting, Stands}
use Rattle.canvas_model.specs.Good.{IsCreation, IsKnown}
use Rattle.canvas_model.specs.Laws.{EachEditStands, EachVersionIsSound}
use Rattle.canvas_model.proofs.Lists.{drop-append, nth-append, nth-append_inv, nth-drop, nth-last, nth-within}
use Rattle.canvas_model.proofs.Making.{live_known, made_id, made_object}
use Rattle.canvas_model.proofs.Overlay.{CreatedBy, live_over}
use Rattle.canvas_client.specs.Placed.{BecomesAt, EachPlacedEditStands, MakesAt, NotShown, PlaceRequest, unplaced}
use Rattle.canvas_client.specs.Placed as placed
use Rattle.canvas_threads.specs.Follows.{FollowsLog}

-- the object of the change is live in the view, or the change creates it
abbrev IsShownOrNew : Doc → Change → Type 0
IsShownOrNew view change = (live view (object_of change) ≡ true) ⊎ IsCreation (Some change) (object_of change)

-- what the change creates has this id
abbrev CreatesAs : ℕ → Change → Type 0
CreatesAs c change = (id : ObjId) (kind : Kind) (place : Place) → change ≡ Create id kind place → id.client ≡ c

-- after the change what waits is the client's own, and it stands on the document
abbrev StandsBy : Client → Change → Doc → Type 0
StandsBy client change d = OwnsWaiting (edited client change) × Stands (edited client change) d

-- what a request makes is about an object that is shown, or a new one
made_about : (client : Client) (c : ℕ) (request : EditRequest) (change : Change) → Becomes client c request change → (local.IsHidden client.view request → ⊥) → IsShownOrNew client.view change
made_about client c request change b shown = by (made_object client c request change b shown)
  where
    by : (live client.view (object_of change) ≡ true) ⊎ ((kind : Kind) × (place : Place) × (change ≡ Create (object_of change) kind place)) → IsShownOrNew client.view change
    by (inl alive) = inl alive
    by (inr new) = inr (new.0, new.1, ap Some new.2)

-- the same of a request at a place: an object is hidden from a move where it is hidden from a deletion
placed_about : (client : Client) (c : ℕ) (request : PlaceRequest) (change : Change) → BecomesAt client c request change → (local.IsHidden client.view (unplaced request) → ⊥) → IsShownOrNew client.view change
placed_about client c (placed.Create kind place) change b shown = inr (subst (λ (x : Change). IsCreation (Some x) (object_of x)) (sym b) (kind, place, refl))
placed_about client c (placed.Move id place) change b shown = by (made_object client c (local.Delete id) (Delete id) refl shown)
  where
    by : (live client.view id ≡ true) ⊎ ((kind : Kind) × (at : Place) × (Delete id ≡ Create id kind at)) → IsShownOrNew client.view change
    by (inl alive) = inl (subst (λ (x : Change). live client.view (object_of x) ≡ true) (sym b) alive)
    by (inr new) = let other : Delete id ≡ Create id new.0 new.1 = new.2 in absurd (cc)

-- what it creates has the client's id
placed_own : (client : Client) (c : ℕ) (request : PlaceRequest) (id : ObjId) (kind : Kind) (place : Place) → BecomesAt client c request (Create id kind place) → id.client ≡ c
placed_own client c (placed.Create kind at) id k p b = let same : id ≡ record { client = c; counter = client.counter + 1 } = cc b in ap (λ (i : ObjId). i.client) same
placed_own client c (placed.Move i at) id k p b = absurd (cc b)

known_further : (s : State) (edits : List Change) (change : Change) (i : ℕ) (id : ObjId) → IsKnown s edits i id → IsKnown s (edits ++ change ∷ []) i id
known_further s edits change i id (inl h) = inl h
known_further s edits change i id (inr (inl h)) = inr (inl h)
known_further s edits change i id (inr (inr h)) = inr (inr (h.0, h.1, (h.2.0, h.2.1, nth-append edits (change ∷ []) h.0 (Create id h.2.0 h.2.1) h.2.2)))

-- the client follows the log after one more change, which is about an object that is shown or new, creates nothing but its own, and leaves it standing
module _ (sound : EachVersionIsSound) (log : List Entry) (legal : IsLegal opening log) (c : ℕ) (edits : List Change) (client : Client) (f : FollowsLog log c edits client) (change : Change)
    (about : IsShownOrNew client.view change) (creates : CreatesAs c change) (stood : StandsBy client change (at_version log client.version).doc) where
  own : (i : ℕ) (id : ObjId) (kind : Kind) (place : Place) → (nth edits i ≡ Some (Create id kind place)) ⊎ ((i ≡ suc (length edits)) × (change ≡ Create id kind place)) → id.client ≡ c
  own i id kind place (inl h) = f.own i id (kind, place, h)
  own i id kind place (inr h) = creates id kind place h.1

  shown_known : (q : ObjId) → (live (at_version log client.version).doc q ≡ true) ⊎ CreatedBy client.waiting q → IsKnown (at_version log client.version) (edits ++ change ∷ []) (suc (length edits)) q
  shown_known q (inl alive) = live_known (at_version log client.version) (sound log legal client.version) (edits ++ change ∷ []) (suc (length edits)) q alive
  shown_known q (inr made) =
      let create = Create q made.is.0 made.is.1 in
      let at = client.acknowledged + made.place in
      let there : nth edits at ≡ Some create = nth-drop client.acknowledged edits made.place create (ap (λ (l : List Change). nth l made.place) (sym f.waiting) ∙ made.is.2) in
      let within = (nth-within edits at create there).1 in
      inr (inr (at, omega (arith, within), (made.is.0, made.is.1, nth-append edits (change ∷ []) at create there)))

  new_known : IsShownOrNew client.view change → IsKnown (at_version log client.version) (edits ++ change ∷ []) (suc (length edits)) (object_of change)
  new_known (inl alive) = shown_known (object_of change) (live_over (at_version log client.version).doc client.waiting (object_of change) (subst (λ (d : Doc). live d (object_of change) ≡ true) f.stands.shown alive))
  new_known (inr new) = inr (inr (suc (length edits), omega arith, (new.0, new.1, nth-last edits change ∙ new.2)))

  known : (i : ℕ) (other : Change) → client.acknowledged < i → (nth edits i ≡ Some other) ⊎ ((i ≡ suc (length edits)) × (change ≡ other)) → IsKnown (at_version log client.version) (edits ++ change ∷ []) i (object_of other)
  known i other more (inl h) = known_further (at_version log client.version) edits change i (object_of other) (f.known i other more h)
  known i other more (inr h) = subst (λ (x : ℕ × Change). IsKnown (at_version log client.version) (edits ++ change ∷ []) x.0 (object_of x.1)) (λ j. (sym h.0 j, h.1 j)) (new_known about)

  follows_changed : FollowsLog log c (edits ++ change ∷ []) (edited client change)
  follows_changed =
      record {
        holds = f.holds;
        given = f.given;
        reached = f.reached;
        acknowledged = f.acknowledged;
        made = omega (arith, f.made, length-append edits (change ∷ []));
        waiting = ap (λ (l : List Change). l ++ change ∷ []) f.waiting ∙ sym (drop-append client.acknowledged edits (change ∷ []) f.made);
        stands = stood.1;
        owns = stood.0;
        own = λ i id created. own i id created.0 created.1 (nth-append_inv edits change i (Create id created.0 created.1) created.2);
        known = λ i other more here. known i other more (nth-append_inv edits change i other here);
      }

module _ (sound : EachVersionIsSound) (log : List Entry) (legal : IsLegal opening log) (c : ℕ) (edits : List Change) (client : Client) (f : FollowsLog log c edits client) (change : Change) where
  -- the client's id is the one under which it follows
  id_is : (has : ℕ) → client.id ≡ Some has → has ≡ c
  id_is has is = let both : Some has ≡ Some c = sym is ∙ f.holds in cc

  pub follows_edited : EachEditStands → (request : EditRequest) → Makes client request change → FollowsLog log c (edits ++ change ∷ []) (edited client change)
  follows_edited stands_edited request makes =
      follows_changed sound log legal c edits client f change
      (made_about client makes.1 request change makes.3 (λ hidden. makes.0 local.NotShown (inl hidden)))
      (λ id kind place is. (made_id client makes.1 request id kind place (subst (Becomes client makes.1 request) is makes.3)).0 ∙ id_is makes.1 makes.2)
      (stands_edited (at_version log client.version).doc client request change f.owns f.stands makes)

  pub follows_placed : EachPlacedEditStands → (request : PlaceRequest) → MakesAt client request change → FollowsLog log c (edits ++ change ∷ []) (edited client change)
  follows_placed stands_placed request makes =
      follows_changed sound log legal c edits client f change
      (placed_about client makes.1 request change makes.3 (λ hidden. makes.0 NotShown (inl hidden)))
      (λ id kind place is. placed_own client makes.1 request id kind place (subst (BecomesAt client makes.1 request) is makes.3) ∙ id_is makes.1 makes.2)
      (stands_placed (at_version log client.version).doc client request change f.owns f.stands makes)
