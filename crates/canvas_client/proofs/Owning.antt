-- Which parts are those of a client.
use Rattle.std.proofs.Common.{◌≡◌, ℕ, ◌≤◌, ◌&&◌, nat_eq, nat_le, Bool, true, false, cond, List, [], ◌∷◌, Some, None, refl, ap, sym, subst, ◌∙◌, arith}
use Rattle.std.specs.Prelude.{◌||◌, ◌↔◌, IsTrue, not}
use Rattle.std.specs.List.{list_any}
use Rattle.std.specs.BTreeSet.{BTreeSet, contains, Updates}
use Rattle.std.specs.Cmp.{eq_by_cmp_equiv}
use Rattle.canvas_model.specs.declared.ObjId.{ObjId}
use Rattle.canvas_model.specs.declared.Kind.{Kind}
use Rattle.canvas_model.specs.Ids.{id_cmp, root, same_id}
use Rattle.canvas_model.specs.Document.{Doc, Place}
use Rattle.canvas_model.specs.Change.{Change, Create, Set, Move, Delete}
use Rattle.canvas_model.specs.Client.{Client, last_number}
use Rattle.canvas_model.specs.Log.{last_version}
use Rattle.canvas_model.specs.Standing.{AreOwn}
use Rattle.canvas_model.specs.View.{creates_it}
use Rattle.canvas_model.proofs.Ids.{id_total}
use Rattle.canvas_value.proofs.Tests.{both_hold, both_true}
use Rattle.canvas_client.specs.Kept.{IsKept}
use Rattle.canvas_client.specs.Parts.{CreatesNew}

-- ---- one edit more, from the last one on

pub own_more : (c counter : ℕ) (noted : BTreeSet ObjId) (change : Change) (rest : List Change) (a b : Bool) → (IsTrue a ↔ AreOwn c counter rest) → ((q : ObjId) → contains id_cmp noted q ≡ list_any (creates_it q) rest)
    → (IsTrue b ↔ CreatesNew c counter noted change) → IsTrue (a && b) ↔ AreOwn c counter (change ∷ rest)
own_more c counter noted (Create id kind place) rest a b own tells new =
    (λ t. let s = both_hold a b t in let n = new.0 s.1 in (n.1, n.2, sym (tells id) ∙ n.0, own.0 s.0), λ is. both_true a b (own.1 is.3) (new.1 (tells id ∙ is.2, is.0, is.1)))
own_more c counter noted (Set id name value) rest a b own tells new = (λ t. own.0 (both_hold a b t).0, λ is. both_true a b (own.1 is) (new.1 tt))
own_more c counter noted (Move id place) rest a b own tells new = (λ t. own.0 (both_hold a b t).0, λ is. both_true a b (own.1 is) (new.1 tt))
own_more c counter noted (Delete id) rest a b own tells new = (λ t. own.0 (both_hold a b t).0, λ is. both_true a b (own.1 is) (new.1 tt))

pub tells_more : (old new : BTreeSet ObjId) (change : Change) (rest : List Change) → ((q : ObjId) → contains id_cmp old q ≡ list_any (creates_it q) rest) → ((q : ObjId) → contains id_cmp new q ≡ (creates_it q change || contains id_cmp old q))
    → (q : ObjId) → contains id_cmp new q ≡ list_any (creates_it q) (change ∷ rest)
tells_more old new change rest tells more q = more q ∙ ap (λ b. creates_it q change || b) (tells q)

-- what is noted of a creation
pub note_own : (c counter : ℕ) (noted : BTreeSet ObjId) (change : Change) (id : ObjId) (kind : Kind) (place : Place) (b : Bool) → change ≡ Create id kind place → b ≡ not (contains id_cmp noted id)
    → IsTrue ((b && nat_eq id.client c) && nat_le id.counter counter) ↔ CreatesNew c counter noted change
note_own c counter noted change id kind place b is new = subst (λ x. IsTrue ((b && nat_eq id.client c) && nat_le id.counter counter) ↔ CreatesNew c counter noted x) (sym is) (to, fro)
  where
    hidden : (a : Bool) → b ≡ not a → b ≡ true → a ≡ false
    hidden true e t = cc
    hidden false e t = refl

    shown : (a : Bool) → b ≡ not a → a ≡ false → b ≡ true
    shown true e t = cc
    shown false e t = e

    to : ((b && nat_eq id.client c) && nat_le id.counter counter) ≡ true → CreatesNew c counter noted (Create id kind place)
    to t =
        let p = both_hold (b && nat_eq id.client c) (nat_le id.counter counter) t in let q = both_hold b (nat_eq id.client c) p.0 in let same = q.1 in let low = p.1 in
        (hidden (contains id_cmp noted id) new q.0, grind (arith, same), grind (arith, low))

    fro : CreatesNew c counter noted (Create id kind place) → ((b && nat_eq id.client c) && nat_le id.counter counter) ≡ true
    fro n =
        let same = n.1 in let low = n.2 in
        both_true (b && nat_eq id.client c) (nat_le id.counter counter) (both_true b (nat_eq id.client c) (shown (contains id_cmp noted id) new n.0) (grind (arith, same))) (grind (arith, low))

pub note_tells : (old new : BTreeSet ObjId) (change : Change) (id : ObjId) (kind : Kind) (place : Place) → change ≡ Create id kind place → Updates id_cmp old new id true → (q : ObjId) → contains id_cmp new q ≡ (creates_it q change || contains id_cmp old q)
note_tells old new change id kind place is up q = up.0 q ∙ ap (λ b. cond b true (contains id_cmp old q)) ((eq_by_cmp_equiv id_total).symm id q) ∙ turned (same_id q id) ∙ ap (λ x. creates_it q x || contains id_cmp old q) (sym is)
  where
    turned : (b : Bool) → cond b true (contains id_cmp old q) ≡ (b || contains id_cmp old q)
    turned true = refl
    turned false = refl

-- ---- all parts

module _ (client : Client) where
  -- where the three tests and that of ownership hold, the parts are a client's
  pub kept_with : (c : ℕ) → client.id ≡ Some c → last_number client ≤ last_version → list_any (creates_it root) client.waiting ≡ false → AreOwn c client.counter client.waiting → IsKept client
  kept_with c is few spares own = record {
    own = λ d e. let f : Some c ≡ Some d = sym is ∙ e in let same : c ≡ d = cc in subst (λ x. AreOwn x client.counter client.waiting) same own;
    no_root = spares;
    idle = λ none. let f : None ≡ Some c = sym none ∙ is in absurd (cc);
    few = few;
  }

  pub kept_by : (c : ℕ) (b : Bool) → client.id ≡ Some c → last_number client ≤ last_version → list_any (creates_it root) client.waiting ≡ false → (IsTrue b ↔ AreOwn c client.counter client.waiting) → IsTrue b ↔ IsKept client
  kept_by c b is few spares own = (λ t. kept_with c is few spares (own.0 t), λ kept. own.1 (kept.own c is))

  pub kept_without : client.id ≡ None → last_number client ≤ last_version → (client.id ≡ None → client.waiting ≡ []) → list_any (creates_it root) client.waiting ≡ false → IsKept client
  kept_without none few idle spares = record { own = λ d e. let f : None ≡ Some d = sym none ∙ e in absurd (cc); no_root = spares; idle = idle; few = few }

-- the same parts, in other terms
pub kept_as : (client : Client) (waiting : List Change) (view : Doc) → waiting ≡ client.waiting → view ≡ client.view → IsKept client
    → IsKept (record { id = client.id; counter = client.counter; version = client.version; acknowledged = client.acknowledged; waiting = waiting; view = view })
kept_as client waiting view p q kept =
    subst IsKept (λ i. record { id = client.id; counter = client.counter; version = client.version; acknowledged = client.acknowledged; waiting = sym p i; view = sym q i }) kept
