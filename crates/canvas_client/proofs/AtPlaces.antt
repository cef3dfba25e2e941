-- Refusals of an edit at a place, one after another, and what is made where none holds.
use Rattle.std.proofs.Common.{◌≡◌, ℕ, ◌<◌, ◌^◌, Option, Some, None, sym, ap, subst, ◌∙◌, arith}
use Rattle.std.specs.Prelude.{IsSomeAnd}
use Rattle.std.specs.Option.{option_map}
use Rattle.canvas_model.specs.declared.ObjId.{ObjId}
use Rattle.canvas_model.specs.declared.Kind.{Kind}
use Rattle.canvas_model.specs.Document.{Place}
use Rattle.canvas_model.specs.Sibling.{IsTaken}
use Rattle.canvas_model.specs.Change.{Change}
use Rattle.canvas_model.specs.Client.{Client, last_number}
use Rattle.canvas_model.specs.Local.{EditRequest, EditError, Blocks, GoesTooDeep, Refuses, left_out, rank}
use Rattle.canvas_model.specs.Local as local
use Rattle.canvas_client.specs.Asked.{NoneBefore}
use Rattle.canvas_client.specs.Placed.{PlaceRequest, Create, Move, PlaceError, NotOpen, TooDeep, Taken, IdsSpent, Full, BecomesAt, BlocksAt, IsRefusalAt, IsSoAt, MakesAt, RefusesAt, as_edit_error, place_asked, unplaced}

module _ (client : Client) (r : PlaceRequest) where
  -- a refusal before `Taken` is that of the request with the position left to the client
  early_from : (e : PlaceError) → rank (as_edit_error e) < 7 → BlocksAt client r e → Blocks client (unplaced r) (as_edit_error e)
  early_from Taken lt b = absurd (omega arith)
  early_from e lt b = b

  early_to : (e : PlaceError) → rank (as_edit_error e) < 7 → Blocks client (unplaced r) (as_edit_error e) → BlocksAt client r e
  early_to Taken lt b = absurd (omega arith)
  early_to e lt b = b

  -- where none of the first holds of that request, none holds of this one
  none_early : (n : ℕ) → n < 8 → NoneBefore client (unplaced r) n → (e : PlaceError) → rank (as_edit_error e) < n → BlocksAt client r e → ⊥
  none_early n few before e lt b = before (as_edit_error e) lt (early_from e (omega arith) b)

  -- the first refusal of that request, where it is early, is the first of this one
  pub refuses_early : (e : PlaceError) → rank (as_edit_error e) < 7 → Refuses client (unplaced r) (as_edit_error e) → RefusesAt client r e
  refuses_early e lt refuses = (early_to e lt refuses.0, none_early (rank (as_edit_error e)) (omega arith) refuses.1)

  -- the same for what may be none
  pub refuses_seen : (error : Option PlaceError) (e : Option EditError) → option_map as_edit_error error ≡ e → IsSomeAnd e (Refuses client (unplaced r)) → IsSomeAnd e (λ x. rank x < 6) → IsRefusalAt client r error
  refuses_seen None e is refuses early = tt
  refuses_seen (Some error) e is refuses early =
      refuses_early error (let lt : rank (as_edit_error error) < 6 = subst (λ x. IsSomeAnd x (λ y. rank y < 6)) (sym is) early in omega arith) (subst (λ x. IsSomeAnd x (Refuses client (unplaced r))) (sym is) refuses)

  module _ (before : NoneBefore client (unplaced r) 7) where
    pub taken_at : BlocksAt client r Taken → RefusesAt client r Taken
    taken_at taken = (taken, none_early 7 (omega arith) before)

    module _ (free : BlocksAt client r Taken → ⊥) where
      before_ids : (e : PlaceError) → rank (as_edit_error e) < 8 → BlocksAt client r e → ⊥
      before_ids Taken lt b = free b
      before_ids e lt b = none_early 7 (omega arith) before e (omega arith) b

      pub spent_at : BlocksAt client r IdsSpent → RefusesAt client r IdsSpent
      spent_at spent = (spent, before_ids)

      module _ (ids : BlocksAt client r IdsSpent → ⊥) where
        before_full : (e : PlaceError) → rank (as_edit_error e) < 9 → BlocksAt client r e → ⊥
        before_full IdsSpent lt b = ids b
        before_full e lt b = before_ids e (omega arith) b

        pub full_at : last_number client ≡ 2 ^ 62 → RefusesAt client r Full
        full_at full = (full, before_full)

        pub none_at : (last_number client ≡ 2 ^ 62 → ⊥) → (e : PlaceError) → BlocksAt client r e → ⊥
        none_at left Full b = left b
        none_at left e b = before_full e (omega arith) b

module _ (client : Client) (request : EditRequest) (place : Place) where
  -- without an id
  pub so_closed : client.id ≡ None → IsSoAt request place (λ r. RefusesAt client r NotOpen)
  so_closed none r is at = (none, λ e lt b. absurd (omega arith))

  -- a refusal that the view gives
  pub so_shown : (error : Option PlaceError) (e : Option EditError) → option_map as_edit_error error ≡ e → IsSomeAnd e (Refuses client request) → IsSomeAnd e (λ x. rank x < 6) → IsSoAt request place (λ r. IsRefusalAt client r error)
  so_shown error e same refuses early r is at = refuses_seen client r error e same (subst (λ x. IsSomeAnd e (Refuses client x)) (sym is) refuses) early

  -- too deep
  pub so_deep : NoneBefore client request 6 → GoesTooDeep client.view request → IsSoAt request place (λ r. RefusesAt client r TooDeep)
  so_deep before deep r is at =
      let refuses : Refuses client request local.TooDeep = (deep, before) in
      refuses_early client r TooDeep (omega arith) (subst (λ x. Refuses client x local.TooDeep) (sym is) refuses)

  -- taken
  pub so_taken : NoneBefore client request 7 → IsTaken client.view place.parent (left_out request) place.pos → IsSoAt request place (λ r. RefusesAt client r Taken)
  so_taken before taken r is at =
      taken_at client r (subst (λ x. NoneBefore client x 7) (sym is) before)
      (subst (λ (p : Place). IsTaken client.view p.parent (left_out (unplaced r)) p.pos) (sym at) (subst (λ x. IsTaken client.view place.parent (left_out x) place.pos) (sym is) taken))

-- what a request at a place is, seen as one with the position left to the client, against which nothing up to `Taken` speaks
module _ (client : Client) (r : PlaceRequest) (request : EditRequest) (same : request ≡ unplaced r) (before : NoneBefore client request 7)
    (free : IsTaken client.view (place_asked r).parent (left_out request) (place_asked r).pos → ⊥) where
  before_of : NoneBefore client (unplaced r) 7
  before_of = subst (λ x. NoneBefore client x 7) same before

  free_of : BlocksAt client r Taken → ⊥
  free_of taken = free (subst (λ x. IsTaken client.view (place_asked r).parent (left_out x) (place_asked r).pos) (sym same) taken)

  pub spent_of : BlocksAt client r IdsSpent → RefusesAt client r IdsSpent
  spent_of spent = spent_at client r before_of free_of spent

  pub full_of : (BlocksAt client r IdsSpent → ⊥) → last_number client ≡ 2 ^ 62 → RefusesAt client r Full
  full_of ids full = full_at client r before_of free_of ids full

  pub makes_of : (BlocksAt client r IdsSpent → ⊥) → (last_number client ≡ 2 ^ 62 → ⊥) → (c : ℕ) (made : Change) → client.id ≡ Some c → BecomesAt client c r made → MakesAt client r made
  makes_of ids left c made id becomes = (none_at client r before_of free_of ids left, c, id, becomes)

-- the request that is looked at, made of the parts of a place
pub as_created : (request : EditRequest) (kind : Kind) (inner place : Place) → request ≡ local.Create kind (record { parent = inner.parent; after = None }) → inner ≡ place → request ≡ unplaced (Create kind place)
as_created request kind inner place is same = is ∙ ap (λ (p : Place). local.Create kind (record { parent = p.parent; after = None })) same

pub as_moved : (request : EditRequest) (id : ObjId) (inner place : Place) → request ≡ local.Move id (record { parent = inner.parent; after = None }) → inner ≡ place → request ≡ unplaced (Move id place)
as_moved request id inner place is same = is ∙ ap (λ (p : Place). local.Move id (record { parent = p.parent; after = None })) same
