-- A client after an edit of its own.
use Rattle.std.proofs.Common.{◌≡◌, ◌⊎◌, inl, inr, ℕ, ◌+◌, ◌≤◌, ◌<◌, Bool, true, false, List, [], ◌∷◌, ◌++◌, length, Some, None, length-append, refl, sym, ap, subst, ◌∙◌, arith}
use Rattle.std.specs.Prelude.{◌||◌}
use Rattle.std.specs.List.{list_any}
use Rattle.canvas_model.specs.declared.ObjId.{ObjId}
use Rattle.canvas_model.specs.declared.Kind.{Kind}
use Rattle.canvas_model.specs.Ids.{root, same_id}
use Rattle.canvas_model.specs.Document.{Doc, Place, live}
use Rattle.canvas_model.specs.Change.{Change, object_of}
use Rattle.canvas_model.specs.Change as change
use Rattle.canvas_model.specs.Overlay.{lay}
use Rattle.canvas_model.specs.View.{creates_it}
use Rattle.canvas_model.specs.Client.{Client}
use Rattle.canvas_model.specs.Local.{EditRequest, Create, Set, Clear, Move, Delete, Full, Target, Becomes, Makes, counter_after, edited}
use Rattle.canvas_model.specs.Standing.{OwnsWaiting, Stands}
use Rattle.canvas_model.proofs.Ids.{same_id_true}
use Rattle.canvas_model.proofs.Owned.{any-append, made_here, or_split, own-append}
use Rattle.canvas_model.proofs.Overlay.{over-append}
use Rattle.canvas_client.specs.Asked.{HasCreated, StandsStill}
use Rattle.canvas_client.specs.Kept.{IsKept}
use Rattle.canvas_client.specs.Placed.{PlaceRequest, BecomesAt, EachPlacedEditStands, MakesAt, MayAdd}
use Rattle.canvas_client.specs.Placed as placed

-- a creation gets the next counter
created : (client : Client) (c : ℕ) (r : EditRequest) (made : Change) (q : ObjId) (kind : Kind) (place : Place) → Becomes client c r made → made ≡ change.Create q kind place → (q.client ≡ c) × (q.counter ≡ client.counter + 1)
created client c (Create kind target) made q k place (pos, lands, is) e =
    let both : change.Create (record { client = c; counter = client.counter + 1 }) kind (record { parent = target.parent; pos = pos }) ≡ change.Create q k place = sym is ∙ e in
    let same : q ≡ record { client = c; counter = client.counter + 1 } = cc in
    (ap (λ (i : ObjId). i.client) same, ap (λ (i : ObjId). i.counter) same)
created client c (Set id name value) made q k place is e = absurd (cc)
created client c (Clear id name) made q k place is e = absurd (cc)
created client c (Move id target) made q k place (pos, lands, is) e = absurd (cc)
created client c (Delete id) made q k place is e = absurd (cc)

-- what a request makes may be added
pub may_add : (client : Client) (r : EditRequest) (made : Change) → Makes client r made → MayAdd client made
may_add client r made makes = record { id = makes.1; has = makes.2; left = makes.0 Full; new = λ q kind place is. created client makes.1 r made q kind place makes.3 is }

-- what a request at a place makes too
pub may_add_at : (client : Client) (r : PlaceRequest) (made : Change) → MakesAt client r made → MayAdd client made
may_add_at client r made makes = record { id = makes.1; has = makes.2; left = makes.0 placed.Full; new = λ q kind place is. created_at r makes.3 q kind place is }
  where
    created_at : (r : PlaceRequest) → BecomesAt client makes.1 r made → (q : ObjId) (kind : Kind) (place : Place) → made ≡ change.Create q kind place → (q.client ≡ makes.1) × (q.counter ≡ client.counter + 1)
    created_at (placed.Create kind place) is q k p e =
        let same : q ≡ record { client = makes.1; counter = client.counter + 1 } = cc in
        (ap (λ (i : ObjId). i.client) same, ap (λ (i : ObjId). i.counter) same)
    created_at (placed.Move id place) is q k p e = absurd (cc)

-- counters never fall
risen : (client : Client) (made : Change) → MayAdd client made → client.counter ≤ counter_after client.counter made
risen client (change.Create id kind place) may = let g = (may.new id kind place refl).1 in omega (arith, g)
risen client (change.Set id name value) may = omega arith
risen client (change.Move id place) may = omega arith
risen client (change.Delete id) may = omega arith

-- the root isn't created
spares_root : (client : Client) (made : Change) → MayAdd client made → creates_it root made ≡ false
spares_root client (change.Create id kind place) may = go (same_id root id) refl
  where
    go : (b : Bool) → same_id root id ≡ b → b ≡ false
    go false e = refl
    go true e =
        let zero_yet : 0 ≡ id.counter = ap (λ (i : ObjId). i.counter) (same_id_true root id e) in
        let next = (may.new id kind place refl).1 in
        absurd (omega (arith, zero_yet, next))
spares_root client (change.Set id name value) may = refl
spares_root client (change.Move id place) may = refl
spares_root client (change.Delete id) may = refl

module _ (client : Client) (made : Change) (may : MayAdd client made) where
  -- what is created has a counter that wasn't given
  given : (q : ObjId) (kind : Kind) (place : Place) → made ≡ change.Create q kind place → (q.client ≡ may.id) × (client.counter < q.counter) × (q.counter ≤ counter_after client.counter made)
  given q kind place e =
      let g = may.new q kind place e in
      let after : counter_after client.counter made ≡ q.counter = ap (counter_after client.counter) e in
      (g.0, omega (arith, g.1), omega (arith, after))

  -- what waits stays the client's own
  pub owns_edited : OwnsWaiting client → OwnsWaiting (edited client made)
  owns_edited owns c is =
      let both : Some may.id ≡ Some c = sym may.has ∙ is in
      let same : may.id ≡ c = cc in
      own-append c client.counter (counter_after client.counter made) client.waiting made (risen client made may) (λ q kind place e. let g = given q kind place e in (g.0 ∙ same, g.1, g.2)) (owns c is)

  -- what holds of every client holds after an edit
  pub kept_edited : IsKept client → IsKept (edited client made)
  kept_edited k = record {
    own = owns_edited k.own;
    no_root = any-append (creates_it root) client.waiting made ∙ ap (λ b. b || creates_it root made) k.no_root ∙ (spares_root client made may);
    idle = λ is. absurd (let f : Some may.id ≡ None = sym may.has ∙ is in cc);
    few = let l : length (client.waiting ++ made ∷ []) ≡ length client.waiting + 1 = length-append client.waiting (made ∷ []) in let h = k.few in let n = may.left in omega (arith, l, h, n);
  }

  -- what it creates isn't in a document on which the client stands
  new_there : (d : Doc) → Stands client d → (q : ObjId) → creates_it q made ≡ true → (b : Bool) → live d q ≡ b → live d q ≡ false
  new_there d stood q here false e = e
  new_there d stood q here true e =
      let m = made_here q made here in
      let g = given q m.0 m.1 m.2 in
      let low = stood.counters may.id q may.has e g.0 in
      absurd (omega (arith, low, g.1))

  fresh_there : (d : Doc) → Stands client d → (q : ObjId) → (list_any (creates_it q) client.waiting ≡ true) ⊎ (creates_it q made ≡ true) → live d q ≡ false
  fresh_there d stood q (inl h) = stood.fresh q h
  fresh_there d stood q (inr h) = new_there d stood q h (live d q) refl

  -- and it stands where it stood
  pub stands_edited : StandsStill client (edited client made)
  stands_edited d stood = record {
    shown = ap (λ x. lay x made) stood.shown ∙ sym (over-append d client.waiting made);
    fresh = λ q h. fresh_there d stood q (or_split (list_any (creates_it q) client.waiting) (creates_it q made) (sym (any-append (creates_it q) client.waiting made) ∙ h));
    counters = λ c q is h mine. omega (arith, stood.counters c q is h mine, risen client made may);
  }

-- the law of edits at a place
pub each_placed_edit_stands : EachPlacedEditStands
each_placed_edit_stands d old r made owns stood makes =
    let may = may_add_at old r made makes in
    (owns_edited old made may owns, stands_edited old made may d stood)

-- the parts of a client after an edit
pub parts_edited : (client : Client) (made : Change) (counter : ℕ) (waiting : List Change) (view : Doc) → counter ≡ counter_after client.counter made → waiting ≡ client.waiting ++ made ∷ [] → view ≡ lay client.view made
    → record { id = client.id; counter = counter; version = client.version; acknowledged = client.acknowledged; waiting = waiting; view = view } ≡ edited client made
parts_edited client made counter waiting view p q v i = record { id = client.id; counter = p i; version = client.version; acknowledged = client.acknowledged; waiting = q i; view = v i }

-- a creation that was made
pub has_created : (old new : Client) (kind : Kind) (target : Target) (made : Change) (id : ObjId) → Makes old (Create kind target) made → id ≡ object_of made → new ≡ edited old made → HasCreated old (Create kind target) id new
has_created old new kind target made id makes is now =
    let place : Place = record { parent = target.parent; pos = makes.3.0 } in
    let same : made ≡ change.Create id kind place = makes.3.2 ∙ ap (λ i. change.Create i kind place) (sym (is ∙ ap object_of makes.3.2)) in
    (kind, place, subst (Makes old (Create kind target)) same makes, now ∙ ap (edited old) same)
