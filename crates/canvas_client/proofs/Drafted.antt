-- Refusals one after another, and what is made where none holds.
use Rattle.std.proofs.Common.{◌≡◌, ◌≢◌, ◌⊎◌, inl, inr, ℕ, zero, suc, ◌+◌, ◌<◌, ◌^◌, Option, Some, None, refl, sym, ap, subst, ◌∙◌, arith}
use Rattle.std.proofs.Math.Nat.{eq-or-lt_of_le}
use Rattle.canvas_model.specs.declared.ObjId.{ObjId}
use Rattle.canvas_model.specs.declared.Kind.{Kind}
use Rattle.canvas_model.specs.Ids.{root}
use Rattle.canvas_model.specs.Document.{Pos}
use Rattle.canvas_model.specs.Change.{Change}
use Rattle.canvas_model.specs.Change as change
use Rattle.canvas_model.specs.Client.{Client, last_number}
use Rattle.canvas_model.specs.Local.{EditRequest, Create, Move, EditError, NotOpen, IsRoot, NotShown, ParentNotShown, BadParent, OwnDescendant, TooDeep, Crowded, IdsSpent, Full}
use Rattle.canvas_model.specs.Local.{Target, rank, Blocks, Refuses, Becomes, Makes, Lands}
use Rattle.canvas_client.specs.Asked.{NoneBefore, IsRefusal, IsCrowded}
use Rattle.canvas_client.proofs.Landing.{lands_once}

-- the refusal of this rank
abbrev of_rank : ℕ → EditError
of_rank zero = NotOpen
of_rank (suc zero) = IsRoot
of_rank (suc (suc zero)) = NotShown
of_rank (suc (suc (suc zero))) = ParentNotShown
of_rank (suc (suc (suc (suc zero)))) = BadParent
of_rank (suc (suc (suc (suc (suc zero))))) = OwnDescendant
of_rank (suc (suc (suc (suc (suc (suc zero)))))) = TooDeep
of_rank (suc (suc (suc (suc (suc (suc (suc zero))))))) = Crowded
of_rank (suc (suc (suc (suc (suc (suc (suc (suc zero)))))))) = IdsSpent
of_rank (suc (suc (suc (suc (suc (suc (suc (suc (suc n))))))))) = Full

rank_back : (e : EditError) → of_rank (rank e) ≡ e
rank_back NotOpen = refl
rank_back IsRoot = refl
rank_back NotShown = refl
rank_back ParentNotShown = refl
rank_back BadParent = refl
rank_back OwnDescendant = refl
rank_back TooDeep = refl
rank_back Crowded = refl
rank_back IdsSpent = refl
rank_back Full = refl

-- there are no more than ten
rank_few : (e : EditError) → rank e < 10
rank_few NotOpen = omega arith
rank_few IsRoot = omega arith
rank_few NotShown = omega arith
rank_few ParentNotShown = omega arith
rank_few BadParent = omega arith
rank_few OwnDescendant = omega arith
rank_few TooDeep = omega arith
rank_few Crowded = omega arith
rank_few IdsSpent = omega arith
rank_few Full = omega arith

module _ (client : Client) where
  module _ (r : EditRequest) where
    -- one refusal more that doesn't hold
    pub none_more : (e : EditError) → NoneBefore client r (rank e) → (Blocks client r e → ⊥) → NoneBefore client r (rank e + 1)
    none_more e before not_this earlier lt blocks = go (eq-or-lt_of_le (omega (arith, lt)))
      where
        go : (rank earlier ≡ rank e) ⊎ (rank earlier < rank e) → ⊥
        go (inl same) = not_this (subst (Blocks client r) (sym (rank_back earlier) ∙ ap of_rank same ∙ rank_back e) blocks)
        go (inr less) = before earlier less blocks

    -- none holds at all
    pub makes : (c : ℕ) (made : Change) → client.id ≡ Some c → NoneBefore client r 9 → (last_number client ≡ 2 ^ 62 → ⊥) → Becomes client c r made → Makes client r made
    makes c made id before not_full becomes = (λ e blocks. none_more Full before not_full e (rank_few e) blocks, c, id, becomes)

    -- want of room, where nothing else stands against the request
    pub crowded : (except : ObjId) (target : Target) (e : Option EditError) → (Lands client.view except target None → Blocks client r Crowded) → NoneBefore client r 7 → IsCrowded client.view except target e → IsRefusal client r e
    crowded except target None blocks before is = tt
    crowded except target (Some e) blocks before is = subst (Refuses client r) (sym is.0) (blocks is.1, before)

    -- a request that creates nothing, and lacks no room
    module _ (before : NoneBefore client r 7) (room : Blocks client r Crowded → ⊥) (ids : Blocks client r IdsSpent → ⊥) where
      before_last : NoneBefore client r 9
      before_last = none_more IdsSpent (none_more Crowded before room) ids

      pub plain_full : last_number client ≡ 2 ^ 62 → Refuses client r Full
      plain_full full = (full, before_last)

      pub plain_makes : (made : Change) → (last_number client ≡ 2 ^ 62 → ⊥) → ((c : ℕ) → Becomes client c r made) → Makes client r made
      plain_makes made not_full becomes = go client.id refl
        where
          go : (id : Option ℕ) → client.id ≡ id → Makes client r made
          go None is = absurd (before NotOpen (omega arith) is)
          go (Some c) is = makes c made is before_last not_full (becomes c)

  module _ (kind : Kind) (target : Target) (pos : Pos) (before : NoneBefore client (Create kind target) 7) (lands : Lands client.view root target (Some pos)) where
    before_ids : NoneBefore client (Create kind target) 8
    before_ids = none_more (Create kind target) Crowded before (lands_once client.view root target pos lands)

    pub create_spent : client.counter ≡ 4294967295 → Refuses client (Create kind target) IdsSpent
    create_spent spent = ((tt, spent), before_ids)

    module _ (left : client.counter ≢ 4294967295) where
      before_full : NoneBefore client (Create kind target) 9
      before_full = none_more (Create kind target) IdsSpent before_ids (λ b. left b.1)

      pub create_full : last_number client ≡ 2 ^ 62 → Refuses client (Create kind target) Full
      create_full full = (full, before_full)

      pub create_makes : (c : ℕ) (made : Change) → client.id ≡ Some c → (last_number client ≡ 2 ^ 62 → ⊥)
          → made ≡ change.Create (record { client = c; counter = client.counter + 1 }) kind (record { parent = target.parent; pos = pos }) → Makes client (Create kind target) made
      create_makes c made id not_full is = makes (Create kind target) c made id before_full not_full (pos, lands, is)

  module _ (id : ObjId) (target : Target) (pos : Pos) (before : NoneBefore client (Move id target) 7) (lands : Lands client.view id target (Some pos)) where
    pub move_full : last_number client ≡ 2 ^ 62 → Refuses client (Move id target) Full
    move_full full = plain_full (Move id target) before (lands_once client.view id target pos lands) (λ b. b.0) full

    pub move_makes : (made : Change) → (last_number client ≡ 2 ^ 62 → ⊥) → made ≡ change.Move id (record { parent = target.parent; pos = pos }) → Makes client (Move id target) made
    move_makes made not_full is = plain_makes (Move id target) before (lands_once client.view id target pos lands) (λ b. b.0) made not_full (λ c. (pos, lands, is))
