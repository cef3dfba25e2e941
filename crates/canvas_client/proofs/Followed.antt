-- What a view becomes by an entry, case by case.
use Rattle.std.proofs.Common.{◌≡◌, ◌≢◌, Bool, List, Option, Some, refl, ap, sym, ◌∙◌, subst}
use Rattle.std.specs.List.{Contains}
use Rattle.std.specs.FinMap as map
use Rattle.canvas_model.specs.declared.ObjId.{ObjId}
use Rattle.canvas_model.specs.declared.Kind.{Kind}
use Rattle.canvas_model.specs.declared.Reason.{Reason}
use Rattle.canvas_model.specs.Ids.{root}
use Rattle.canvas_model.specs.Value.{Value}
use Rattle.canvas_model.specs.Document.{Doc, Place, Name, revise, without}
use Rattle.canvas_model.specs.Change.{Change, Create, Set, Move, Delete}
use Rattle.canvas_model.specs.Verdict.{Outcome, Joined, WasSet, Moved, Removed, Refused}
use Rattle.canvas_model.specs.Log.{Edit}
use Rattle.canvas_model.specs.View.{placed, valued, refreshed}
use Rattle.canvas_judge.specs.declared.outcome.Outcome.{Outcome as Stored}
use Rattle.canvas_judge.specs.declared.outcome.Outcome.TheVariants as outcome
use Rattle.canvas_judge.specs.Seen.{seen_outcome}
use Rattle.canvas_client.specs.Follow.{SparesRoot}

module _ (own : Bool) (staying : List Change) (change : Change) (outcome : Outcome) (d n : Doc) (id : ObjId) where
  -- two terms for what is asked and what became of it
  same : (c : Change) (o : Outcome) → change ≡ c → outcome ≡ o → n ≡ refreshed own staying (Edit c) o d → n ≡ refreshed own staying (Edit change) outcome d
  same c o p q now = now ∙ sym (λ t. refreshed own staying (Edit (p t)) (q t) d)

  spared : (c : Change) (o : Outcome) → change ≡ c → outcome ≡ o → SparesRoot (Edit change) outcome → SparesRoot (Edit c) o
  spared c o p q spares = subst (λ (x : Change × Outcome). SparesRoot (Edit x.0) x.1) (λ t. (p t, q t)) spares

  pub set_shown : (name : Name) (value : Option Value) → change ≡ Set id name value → outcome ≡ WasSet → n ≡ revise d id (valued staying id name value (map.get d id)) → n ≡ refreshed own staying (Edit change) outcome d
  set_shown name value p q now = same (Set id name value) WasSet p q now

  pub moved_shown : (ask got : Place) → change ≡ Move id ask → outcome ≡ Moved got → (id ≢ root → n ≡ revise d id (placed staying id got (map.get d id))) → SparesRoot (Edit change) outcome → n ≡ refreshed own staying (Edit change) outcome d
  moved_shown ask got p q now spares = same (Move id ask) (Moved got) p q (now (spared (Move id ask) (Moved got) p q spares))

  pub refused_shown : (ask got : Place) (reason : Reason) → change ≡ Move id ask → outcome ≡ Refused reason (Some got) → (id ≢ root → n ≡ revise d id (placed staying id got (map.get d id))) → SparesRoot (Edit change) outcome → n ≡ refreshed own staying (Edit change) outcome d
  refused_shown ask got reason p q now spares = same (Move id ask) (Refused reason (Some got)) p q (now (spared (Move id ask) (Refused reason (Some got)) p q spares))

  pub removed_shown : (ids : List ObjId) → change ≡ Delete id → outcome ≡ Removed ids → ((Contains ids root → ⊥) → n ≡ without d ids) → SparesRoot (Edit change) outcome → n ≡ refreshed own staying (Edit change) outcome d
  removed_shown ids p q now spares = same (Delete id) (Removed ids) p q (now (spared (Delete id) (Removed ids) p q spares))

-- a creation that was neither done nor refused
pub created_other : {A : Type 0} (own : Bool) (staying : List Change) (change : Change) (stored : Stored A) (d : Doc) (id : ObjId) (kind : Kind) (ask : Place) → change ≡ Create id kind ask
    → ((got : Place) → stored ≡ outcome.Created got → ⊥) → ((reason : Reason) (stands : Option Place) → stored ≡ outcome.Refused reason stands → ⊥) → d ≡ refreshed own staying (Edit change) (seen_outcome stored) d
created_other own staying change (outcome.Joined client) d id kind ask is a b = ap (λ c. refreshed own staying (Edit c) (Joined client) d) (sym is)
created_other own staying change (outcome.Created got) d id kind ask is a b = absurd (a got refl)
created_other own staying change outcome.WasSet d id kind ask is a b = ap (λ c. refreshed own staying (Edit c) WasSet d) (sym is)
created_other own staying change (outcome.Moved got) d id kind ask is a b = ap (λ c. refreshed own staying (Edit c) (Moved got) d) (sym is)
created_other own staying change (outcome.Removed ids) d id kind ask is a b = ap (λ c. refreshed own staying (Edit c) (Removed ids.items) d) (sym is)
created_other own staying change (outcome.Refused reason stands) d id kind ask is a b = absurd (b reason stands refl)
