-- Bounds of how deep objects stand, and what they tell of moves.
use Rattle.std.proofs.Common.{◌≡◌, ◌⊎◌, inl, inr, ℕ, ◌+◌, ◌-◌, ◌≤◌, ◌<◌, Bool, true, false, Option, Some, None, refl, sym, ap, subst, ◌∙◌, arith}
use Rattle.std.specs.Prelude.{◌↔◌, IsTrue, IfSome, nat_lt}
use Rattle.std.proofs.lemmas.Bool.{cases_lt}
use Rattle.canvas_model.specs.declared.ObjId.{ObjId}
use Rattle.canvas_model.specs.Ids.{root}
use Rattle.canvas_model.specs.Document.{Doc, IsDocument, Place, blank}
use Rattle.std.specs.Option.{option_map}
use Rattle.canvas_model.specs.Children.{parent_of}
use Rattle.canvas_model.specs.Depth.{LiesBelow, itself, through, HasDepth, IsHeight, MovesTooDeep, StandsWithin, depth_limit}
use Rattle.canvas_model.specs.declared.Rule.{Rule}
use Rattle.canvas_model.specs.State.{State, IsSound}
use Rattle.canvas_model.specs.Log.{Entry, What, FitsSome, effect}
use Rattle.canvas_model.specs.Verdict.{Outcome, LimitsDepth}
use Rattle.canvas_model.specs.Laws.{EachPutStaysWithin, PutsWithin}
use Rattle.canvas_model.proofs.Depths.{no_steps, one_number, steps_more}
use Rattle.canvas_model.proofs.Opening.{no_place}
use Rattle.canvas_model.proofs.Tests.{lt_true}
use Rattle.canvas_doc.proofs.Levels.{on_the_way}
use Rattle.canvas_judge.specs.Bounds.{IsBound, IsBoundAfter}

-- what lies so many steps below an object stands so much deeper
pub low_within : (d : Doc) (bound old n : ℕ) (id q : ObjId) → IsBound d bound → HasDepth d id old → LiesBelow d n q id → n + old ≤ bound
low_within d bound old n id q is at low = is.within q (n + old) (steps_more low at)

-- what the bound tells
pub surely : (d : Doc) (bound old new : ℕ) (id parent : ObjId) → IsDocument d → IsBound d bound → HasDepth d id old → HasDepth d parent new → new < depth_limit
    → nat_lt (bound - old) (depth_limit - new) ≡ true → MovesTooDeep d id parent → ⊥
surely d bound old new id parent doc is at under room told h =
    let same : new ≡ (h.4).0 = one_number d root doc.root_place under refl (h.4).1 refl in
    let low = low_within d bound old h.2 id h.1 is at h.3 in
    let far = (h.4).2 in
    let less = lt_true (bound - old) (depth_limit - new) told in
    omega (arith, same, low, far, less, room)

pub larger_bound : (d : Doc) (bound b : ℕ) → IsBound d bound → bound ≤ b → b ≤ depth_limit → IsBound d b
larger_bound d bound b is least most = record { within = λ q n at. (let deep = is.within q n at in omega (arith, deep, least)); few = most }

-- a new object
pub new_bound : (d : Doc) (bound depth b : ℕ) (parent : ObjId) → IsDocument d → IsBound d bound → HasDepth d parent depth → bound ≤ b → depth + 1 ≤ b → b ≤ depth_limit
    → IsBound d b × ((k : ℕ) → HasDepth d parent k → k + 1 ≤ b)
new_bound d bound depth b parent doc is at least more most =
    (larger_bound d bound b is least most, λ k there. (let same : depth ≡ k = one_number d root doc.root_place at refl there refl in omega (arith, same, more)))

-- a moved one, below which nothing lies further than this
pub moved_bound : (d : Doc) (bound new lowest b : ℕ) (id parent : ObjId) → IsDocument d → IsBound d bound → HasDepth d parent new → ((q : ObjId) (n : ℕ) → LiesBelow d n q id → n ≤ lowest)
    → bound ≤ b → new + 1 + lowest ≤ b → b ≤ depth_limit
    → IsBound d b × ((q : ObjId) (n depth : ℕ) → LiesBelow d n q id → HasDepth d parent depth → depth + 1 + n ≤ b)
moved_bound d bound new lowest b id parent doc is under low least more most = (
  larger_bound d bound b is least most,
  λ q n depth below there. (let same : new ≡ depth = one_number d root doc.root_place under refl there refl in let few = low q n below in omega (arith, same, few, more)),
)

-- the height of the root is a bound
pub height_bound : (d : Doc) (height : ℕ) → IsHeight d root height → height ≤ depth_limit → IsBound d height
height_bound d height is few = record { within = λ q n at. is.most q n at; few = few }

-- the height of the root, or the depth to which the lowest below a moved object goes, whichever is greater
pub walked_bound : (d : Doc) (bound deepest below new b : ℕ) (id parent : ObjId) → IsDocument d → IsBound d bound → HasDepth d parent new → IsHeight d root deepest → IsHeight d id below
    → deepest ≤ b → new + 1 + below ≤ b → (deepest ≤ depth_limit → b ≤ depth_limit)
    → IsBound d b × ((q : ObjId) (n depth : ℕ) → LiesBelow d n q id → HasDepth d parent depth → depth + 1 + n ≤ b)
walked_bound d bound deepest below new b id parent doc is under tall low least more most =
    let known = is.within tall.reached.0 deepest tall.reached.1 in
    let few = is.few in
    let short : deepest ≤ depth_limit = omega (arith, known, few) in
    moved_bound d deepest new below b id parent doc (height_bound d deepest tall short) under low.most least more (most short)

-- what lies one step below an object names it as its parent
one_below : {d : Doc} {n : ℕ} {q o : ObjId} → LiesBelow d n q o → n ≡ 1 → parent_of d q ≡ Some o
one_below (itself h) one = absurd (omega (arith, one))
one_below {d = d} {o = o} (through {n = k} place at up) one = ap (option_map (λ (p : Place). p.parent)) at ∙ ap Some (no_step up (omega (arith, one)))
  where
    no_step : {m : ℕ} {p r : ObjId} → LiesBelow d m p r → m ≡ 0 → p ≡ r
    no_step (itself h) none = refl
    no_step (through next there rest) none = absurd (omega (arith, none))

-- nothing lies below an object without children
pub none_without : (d : Doc) (id : ObjId) (any : Bool) → IsTrue any ↔ ((q : ObjId) × (parent_of d q ≡ Some id)) → any ≡ false → (q : ObjId) (n : ℕ) → LiesBelow d n q id → n ≤ 0
none_without d id any told is q n low = by (cases_lt n 1)
  where
    by : (n < 1) ⊎ (1 ≤ n) → n ≤ 0
    by (inl less) = omega (arith, less)
    by (inr more) = let child = on_the_way 1 more low in absurd (let yes = told.1 (child.0, one_below child.1 refl) in cc (yes, is))

pub blank_bound : (d : Doc) → d ≡ blank → IsBound d 0
blank_bound d same = record { within = λ q n at. none q n (subst (λ x. HasDepth x q n) same at); few = omega arith }
  where
    none : (q : ObjId) (n : ℕ) → HasDepth blank q n → n ≤ 0
    none q n at = let zero_deep = no_steps blank q (no_place q) refl at in omega (arith, zero_deep)

-- a bound after an entry is one of the document there
pub stays_bounded : EachPutStaysWithin → (s : State) (e : Entry) (d after : Doc) (what : What) (outcome : Outcome) (bound : Option ℕ) → IsSound s → FitsSome s e → d ≡ s.doc → what ≡ e.what → outcome ≡ e.outcome → after ≡ (effect s e).doc
    → IfSome bound (IsBoundAfter d what outcome) → IfSome bound (IsBound after)
stays_bounded law s e d after what outcome None sound fits d_is what_is outcome_is after_is puts = tt
stays_bounded law s e d after what outcome (Some b) sound fits d_is what_is outcome_is after_is puts =
    let within : StandsWithin s.doc b = subst (λ x. StandsWithin x b) d_is puts.before.within in
    let put : PutsWithin s.doc e.what e.outcome b =
    subst (λ o. PutsWithin s.doc e.what o b) outcome_is (subst (λ w. PutsWithin s.doc w outcome b) what_is (subst (λ x. PutsWithin x what outcome b) d_is puts.puts)) in
    record { within = subst (λ x. StandsWithin x b) (sym after_is) (law s e b sound fits within put); few = puts.before.few }

-- what is surely within isn't forbidden
pub surely_not : (rule : Rule) (b : Bool) (P : Type 0) → (IsTrue b → P → ⊥) → b ≡ true → IsTrue false ↔ (LimitsDepth rule × P)
surely_not rule b P told is = ((λ t. absurd (let f : false ≡ true = t in cc f)), (λ h. absurd (told is h.1)))
