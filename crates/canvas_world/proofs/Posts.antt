-- What events send.
use Rattle.std.proofs.Common.{◌≡◌, ◌⊎◌, inl, inr, ℕ, zero, suc, ◌+◌, ◌-◌, ◌<◌, ◌≤◌, refl, sym, ap, subst, ◌∙◌, Bool, true, false, List, [], ◌∷◌, ◌++◌, length, take, drop, arith, length-append}
use Rattle.std.specs.Prelude.{Option, Some, None, not, cond, is_some, ◌&&◌, ◌==◌, nat_lt, nat_le, slice_get}
use Rattle.std.proofs.lemmas.Bool.Decides.{nat_tests}
use Rattle.std.proofs.lemmas.Option.{slice_get_past}
use Rattle.canvas_model.specs.State.{done}
use Rattle.canvas_model.specs.Log.{Entry}
use Rattle.canvas_model.specs.Numbered.{nth}
use Rattle.canvas_model.specs.Messages.{Message, Welcome}
use Rattle.canvas_model.specs.Messages as messages
use Rattle.canvas_model.specs.World.{Letter, Node, World, Nothing, AskJoin, Send, SendWelcome, Tell, Copy, node, state, joined_as, posted, At, Posts}
use Rattle.canvas_model.specs.Good.{IsGood, InOrder}
use Rattle.canvas_model.proofs.Lists.{get-take, get-take_inv, get-drop, get_some}
use Rattle.canvas_model.proofs.Tests.{le_true, le_false, lt_false}
use Rattle.canvas_client.specs.Receives.{IsWaiting}
use Rattle.canvas_server.specs.Served.{tail_of}
use Rattle.canvas_model.specs.Laws.{InEachGoodWorld}
use Rattle.canvas_world.specs.Running.{served_in, ServesGoodWorld}
use Rattle.canvas_world.specs.Parts.{IsPost}
use Rattle.canvas_world.proofs.Placed.{at_none, at_some, if_not, if_so}
use Rattle.canvas_world.proofs.Taken.{found, missing}
use Rattle.canvas_model.specs.Laws.{HoldersJoined}
use Rattle.canvas_server.specs.Served.{Served}
use Rattle.canvas_model.specs.State.{joined}
use Rattle.std.specs.Prelude.{IsTrue}

-- a node asks for an id
pub asks : (w : World) (k : ℕ) (n : Node) → node w k ≡ Some n → n.client.id ≡ None → IsPost w (AskJoin k) (Some (record { from = k; to = 0; message = messages.Join }))
asks w k n is none =
    at_some (node w k) n w _ _ _ is (if_so (not (is_some n.client.id)) w _ _ _ (ap (λ (o : Option ℕ). not (is_some o)) none) (refl, refl))

pub asks_none : (w : World) (k : ℕ) → node w k ≡ None → IsPost w (AskJoin k) None
asks_none w k none = at_none (node w k) w _ none

pub asked_already : (w : World) (k : ℕ) (n : Node) → node w k ≡ Some n → is_some n.client.id ≡ true → IsPost w (AskJoin k) None
asked_already w k n is some = at_some (node w k) n w Nothing w _ is (if_not (not (is_some n.client.id)) w _ (ap not some))

-- a node sends an edit that waits
pub sends : (w : World) (k i : ℕ) (n : Node) (message : Message) → node w k ≡ Some n → IsWaiting n.client i message → IsPost w (Send k i) (Some (record { from = k; to = 0; message = message }))
sends w k i n message is waits =
    at_some (node w k) n w _ _ _ is (at_some n.client.id waits.0 w _ _ _ waits.2 (at_some (nth n.client.waiting i) waits.1 w _ _ _ waits.3
    (refl, ap (λ m. posted w (record { from = k; to = 0; message = m })) waits.4)))

pub sends_none : (w : World) (k i : ℕ) → node w k ≡ None → IsPost w (Send k i) None
sends_none w k i none = at_none (node w k) w _ none

outside : {X : Type 0} (xs : List X) (i : ℕ) → (i ≡ 0) ⊎ (length xs < i) → nth xs i ≡ None
outside xs zero out = refl
outside xs (suc i) (inl e) = absurd (omega arith)
outside xs (suc i) (inr lt) = slice_get_past xs i (omega arith)

-- it has no such edit
pub sends_nothing : (w : World) (k i : ℕ) (n : Node) → node w k ≡ Some n → (i ≡ 0) ⊎ (length n.client.waiting < i) → IsPost w (Send k i) None
sends_nothing w k i n is out = at_some (node w k) n w Nothing w _ is (by n.client.id)
  where
    by : (id : Option ℕ) → At id w Nothing w (λ c. At (nth n.client.waiting i) w Nothing w (λ change. Posts w (record { from = k; to = 0; message = messages.Edit c (n.client.acknowledged + i) change }) Nothing w))
    by None = (refl, refl)
    by (Some c) = at_none (nth n.client.waiting i) w _ (outside n.client.waiting i out)

-- the same, for the world as its contracts see it
pub sends_nothing_at : (w old : World) (k i : ℕ) (ns : List Node) (n : Node) → w ≡ old → Some n ≡ nth ns k → ns ≡ w.nodes → (i ≡ 0) ⊎ (length n.client.waiting < i) → IsPost old (Send k i) None
sends_nothing_at w old k i ns n here is same out =
    subst (λ (u : World). IsPost u (Send k i) None) here (sends_nothing w k i n (found w.nodes ns k n n is same refl) out)

-- an id goes to the node that asked
pub welcomes : (w : World) (v : ℕ) (e : Entry) (c k : ℕ) → v ≤ w.published → nth w.log v ≡ Some e → Some c ≡ joined_as e.outcome → nth w.askers v ≡ Some k
    → IsPost w (SendWelcome v) (Some (record { from = 0; to = k; message = Welcome c }))
welcomes w v e c k le is joins asker =
    if_so (nat_le v w.published) w _ _ _ (grind (arith, nat_tests)) (at_some (nth w.log v) e w _ _ _ is (at_some (joined_as e.outcome) c w _ _ _ (sym joins) (at_some (nth w.askers v) k w _ _ _ asker (refl, refl))))

pub welcomes_late : (w : World) (v : ℕ) → w.published < v → IsPost w (SendWelcome v) None
welcomes_late w v lt = if_not (nat_le v w.published) w _ (grind (arith, nat_tests))

-- where any part is missing
pub welcomes_none : (w : World) (v : ℕ) → v ≤ w.published → (nth w.log v ≡ None) ⊎ ((e : Entry) × (nth w.log v ≡ Some e) × ((joined_as e.outcome ≡ None) ⊎ ((c : ℕ) × (joined_as e.outcome ≡ Some c) × (nth w.askers v ≡ None))))
    → IsPost w (SendWelcome v) None
welcomes_none w v le (inl none) = if_so (nat_le v w.published) w _ _ _ (grind (arith, nat_tests)) (at_none (nth w.log v) w _ none)
welcomes_none w v le (inr (e, is, (inl none))) = if_so (nat_le v w.published) w _ _ _ (grind (arith, nat_tests)) (at_some (nth w.log v) e w _ _ _ is (at_none (joined_as e.outcome) w _ none))
welcomes_none w v le (inr (e, is, (inr (c, joins, none)))) =
    if_so (nat_le v w.published) w _ _ _ (grind (arith, nat_tests)) (at_some (nth w.log v) e w _ _ _ is (at_some (joined_as e.outcome) c w _ _ _ joins (at_none (nth w.askers v) w _ none)))

-- what the server's tail after the version before holds
rest_at : World → ℕ → List Entry
rest_at w v = drop ((v - 1) - w.floor) (take (w.published - w.floor) (drop w.floor w.log))

tail_at : (w : World) (v : ℕ) → 0 < v → (xs : List Entry) → Some xs ≡ tail_of (served_in w) (v - 1) 1 → (w.floor < v) × (xs ≡ take 1 (rest_at w v))
unfolding rest_at
tail_at w v some xs is = go (nat_lt (v - 1) w.floor) refl is
  where
    go : (b : Bool) → nat_lt (v - 1) w.floor ≡ b → Some xs ≡ cond b None (Some (take 1 (drop ((v - 1) - w.floor) (take (w.published - w.floor) (drop w.floor w.log))))) → (w.floor < v) × (xs ≡ take 1 (drop ((v - 1) - w.floor) (take (w.published - w.floor) (drop w.floor w.log))))
    go true e is = absurd (cc)
    go false e is = (let h = lt_false (v - 1) w.floor e in omega (arith, some), (let same : xs ≡ take 1 (drop ((v - 1) - w.floor) (take (w.published - w.floor) (drop w.floor w.log))) = cc in same))

-- its first entry is that of the version, where that is published
first_of : (w : World) (v : ℕ) → w.floor < v → v ≤ w.published → slice_get (take 1 (rest_at w v)) 0 ≡ slice_get w.log (v - 1)
unfolding rest_at
first_of w v past shown =
    let n : ℕ = (v - 1) - w.floor in
    let m : ℕ = w.published - w.floor in
    get-take (drop n (take m (drop w.floor w.log))) 1 0 (omega arith) ∙ get-drop n (take m (drop w.floor w.log)) 0 ∙ get-take (drop w.floor w.log) m (n + 0) (omega arith) ∙ get-drop w.floor w.log (n + 0)
    ∙ ap (slice_get w.log) (let e : w.floor + (n + 0) ≡ v - 1 = omega arith in e)

first_shown : (w : World) (v : ℕ) (e : Entry) → w.floor < v → slice_get (take 1 (rest_at w v)) 0 ≡ Some e → v ≤ w.published
unfolding rest_at
first_shown w v e past is =
    let n : ℕ = (v - 1) - w.floor in
    let m : ℕ = w.published - w.floor in
    let h = get-take_inv (drop w.floor w.log) m (n + 0) e (sym (get-drop n (take m (drop w.floor w.log)) 0) ∙ sym (get-take (drop n (take m (drop w.floor w.log))) 1 0 (omega arith)) ∙ is) in
    let lt = h.0 in
    omega arith

numbered_at : (log : List Entry) (v : ℕ) → 0 < v → slice_get log (v - 1) ≡ nth log v
numbered_at log zero some = absurd (omega arith)
numbered_at log (suc i) some = ap (slice_get log) (let e : suc i - 1 ≡ i = omega arith in e)

only_one : (xs ys : List Entry) (e : Entry) → xs ≡ ys ++ e ∷ [] → length xs ≤ 1 → slice_get xs 0 ≡ Some e
only_one xs [] e is few = ap (λ (zs : List Entry). slice_get zs 0) is
only_one xs (y ∷ ys) e is few = absurd (let l = ap length is in let m = length-append ys (e ∷ []) in omega arith)

short_take : (xs : List Entry) → length (take 1 xs) ≤ 1
short_take [] = omega arith
short_take (x ∷ xs) = omega arith

-- the last of the tail is the entry, which is told
pub tells : (w : World) (v k : ℕ) (n : Node) (e : Entry) (xs ys : List Entry) → node w k ≡ Some n → 0 < v → Some xs ≡ tail_of (served_in w) (v - 1) 1 → xs ≡ ys ++ e ∷ []
    → IsPost w (Tell v k) (Some (record { from = 0; to = k; message = messages.Entry v e }))
tells w v k n e xs ys is some tail popped =
    let t = tail_at w v some xs tail in
    let past = t.0 in
    let first : slice_get (take 1 (rest_at w v)) 0 ≡ Some e = ap (λ (zs : List Entry). slice_get zs 0) (sym t.1) ∙ only_one xs ys e popped (subst (λ (zs : List Entry). length zs ≤ 1) (sym t.1) (short_take (rest_at w v))) in
    let shown = first_shown w v e past first in
    let here : nth w.log v ≡ Some e = sym (numbered_at w.log v some) ∙ sym (first_of w v past shown) ∙ first in
    at_some (node w k) n w _ _ _ is (if_so (nat_lt w.floor v && nat_le v w.published) w _ _ _ (grind (arith, nat_tests)) (at_some (nth w.log v) e w _ _ _ here (refl, refl)))

late : (w : World) (v : ℕ) → w.published < v → (nat_lt w.floor v && nat_le v w.published) ≡ false
late w v lt = grind (arith, nat_tests)

-- an empty tail: the version isn't published
pub tells_late : (w : World) (v k : ℕ) (n : Node) (xs : List Entry) → InOrder w.floor w.published w.synced (length w.log) → node w k ≡ Some n → 0 < v → Some xs ≡ tail_of (served_in w) (v - 1) 1 → xs ≡ []
    → IsPost w (Tell v k) None
tells_late w v k n xs counts is some tail empty = at_some (node w k) n w Nothing w _ is (if_not (nat_lt w.floor v && nat_le v w.published) w _ (late w v (by (nat_le v w.published) refl)))
  where
    by : (b : Bool) → nat_le v w.published ≡ b → w.published < v
    by false e = le_false v w.published e
    by true e =
        let shown = le_true v w.published e in
        let t = tail_at w v some xs tail in
        let past = t.0 in
        let a = counts.shown in
        let b = counts.kept in
        let x = get_some w.log (v - 1) (omega (arith, shown, some, a, b)) in
        let gone : None ≡ Some x.0 = ap (λ (zs : List Entry). slice_get zs 0) (sym empty ∙ t.1) ∙ first_of w v past shown ∙ x.1 in
        absurd (cc)

-- no tail: a checkpoint passed the version
pub tells_passed : (w : World) (v k : ℕ) (n : Node) → node w k ≡ Some n → 0 < v → None ≡ tail_of (served_in w) (v - 1) 1 → IsPost w (Tell v k) None
tells_passed w v k n is some none = at_some (node w k) n w Nothing w _ is (if_not (nat_lt w.floor v && nat_le v w.published) w _ (passed (nat_lt (v - 1) w.floor) refl none))
  where
    passed : (b : Bool) → nat_lt (v - 1) w.floor ≡ b → None ≡ cond b None (Some (take 1 (drop ((v - 1) - w.floor) (take (w.published - w.floor) (drop w.floor w.log))))) → (nat_lt w.floor v && nat_le v w.published) ≡ false
    passed true e is = grind (arith, nat_tests)
    passed false e is = absurd (cc)

-- the document goes to a node
pub copies : (w : World) (k c : ℕ) (n : Node) → node w k ≡ Some n → n.client.id ≡ Some c → (w.published == length w.log) ≡ true
    → IsPost w (Copy k) (Some (record { from = 0; to = k; message = messages.Copy (length w.log) (done (state w) c) (state w).doc }))
copies w k c n is id all = at_some (node w k) n w _ _ _ is (at_some n.client.id c w _ _ _ id (if_so (w.published == length w.log) w _ _ _ all (refl, refl)))

-- the same, for the world as its contracts see it
pub tells_at : (w old : World) (s : Served) (v k : ℕ) (ns : List Node) (n : Node) (e : Entry) (xs ys : List Entry) (message : Message) → w ≡ old → s ≡ served_in w → Some n ≡ nth ns k → ns ≡ w.nodes → (v ≡ 0 → ⊥) → Some xs ≡ tail_of s (v - 1) 1 → xs ≡ ys ++ e ∷ [] → message ≡ messages.Entry v e
    → IsPost old (Tell v k) (Some (record { from = 0; to = k; message = message }))
tells_at w old s v k ns n e xs ys message here serves is same some tail popped says =
    subst (λ (u : World). IsPost u (Tell v k) (Some (record { from = 0; to = k; message = message }))) here
    (subst (λ (m : Message). IsPost w (Tell v k) (Some (record { from = 0; to = k; message = m }))) (sym says)
    (tells w v k n e xs ys (found w.nodes ns k n n is same refl) (omega arith) (tail ∙ ap (λ (s : Served). tail_of s (v - 1) 1) serves) popped))

none_left : (xs : List Entry) → length xs ≡ 0 → xs ≡ []
none_left [] h = refl
none_left (x ∷ xs) h = absurd (omega arith)

pub tells_late_at : (w old : World) (s : Served) (v k : ℕ) (ns : List Node) (n : Node) (xs : List Entry) → IsGood w → w ≡ old → s ≡ served_in w → Some n ≡ nth ns k → ns ≡ w.nodes → (v ≡ 0 → ⊥) → Some xs ≡ tail_of s (v - 1) 1 → length xs ≡ 0
    → IsPost old (Tell v k) None
tells_late_at w old s v k ns n xs good here serves is same some tail empty =
    subst (λ (u : World). IsPost u (Tell v k) None) here
    (tells_late w v k n xs good.bounds (found w.nodes ns k n n is same refl) (omega arith) (tail ∙ ap (λ (s : Served). tail_of s (v - 1) 1) serves) (none_left xs empty))

pub tells_passed_at : (w old : World) (s : Served) (v k : ℕ) (ns : List Node) (n : Node) → w ≡ old → s ≡ served_in w → Some n ≡ nth ns k → ns ≡ w.nodes → (v ≡ 0 → ⊥) → None ≡ tail_of s (v - 1) 1
    → IsPost old (Tell v k) None
tells_passed_at w old s v k ns n here serves is same some none =
    subst (λ (u : World). IsPost u (Tell v k) None) here
    (tells_passed w v k n (found w.nodes ns k n n is same refl) (omega arith) (none ∙ ap (λ (s : Served). tail_of s (v - 1) 1) serves))

pub welcomes_at : (w old : World) (v p : ℕ) (log : List Entry) (ks : List ℕ) (now e : Entry) (c k : ℕ) (message : Message) → w ≡ old → p ≡ w.published → v ≤ p → Some now ≡ nth log v → log ≡ w.log → e ≡ now → Some c ≡ joined_as e.outcome → Some k ≡ nth ks v → ks ≡ w.askers → message ≡ Welcome c
    → IsPost old (SendWelcome v) (Some (record { from = 0; to = k; message = message }))
welcomes_at w old v p log ks now e c k message here count le is same view joins asks askers says =
    subst (λ (u : World). IsPost u (SendWelcome v) (Some (record { from = 0; to = k; message = message }))) here
    (subst (λ (m : Message). IsPost w (SendWelcome v) (Some (record { from = 0; to = k; message = m }))) (sym says)
    (welcomes w v e c k (subst (λ (p : ℕ). v ≤ p) count le) (found w.log log v now e is same view) joins (found w.askers ks v k k asks askers refl)))

pub no_entry_at : (w old : World) (v p : ℕ) (log : List Entry) (o : Option Letter) → w ≡ old → p ≡ w.published → v ≤ p → None ≡ nth log v → log ≡ w.log → o ≡ None → IsPost old (SendWelcome v) o
no_entry_at w old v p log o here count le is same none =
    subst (λ (o : Option Letter). IsPost old (SendWelcome v) o) (sym none) (subst (λ (u : World). IsPost u (SendWelcome v) None) here
    (welcomes_none w v (subst (λ (p : ℕ). v ≤ p) count le) (inl (missing w.log log v is same))))

pub no_join_at : (w old : World) (v p : ℕ) (log : List Entry) (now e : Entry) (o : Option Letter) → w ≡ old → p ≡ w.published → v ≤ p → Some now ≡ nth log v → log ≡ w.log → e ≡ now → None ≡ joined_as e.outcome → o ≡ None → IsPost old (SendWelcome v) o
no_join_at w old v p log now e o here count le is same view joins none =
    subst (λ (o : Option Letter). IsPost old (SendWelcome v) o) (sym none) (subst (λ (u : World). IsPost u (SendWelcome v) None) here
    (welcomes_none w v (subst (λ (p : ℕ). v ≤ p) count le) (inr (e, found w.log log v now e is same view, inl (sym joins)))))

pub no_asker_at : (w old : World) (v p : ℕ) (log : List Entry) (ks : List ℕ) (now e : Entry) (c : ℕ) (o : Option Letter) → w ≡ old → p ≡ w.published → v ≤ p → Some now ≡ nth log v → log ≡ w.log → e ≡ now → Some c ≡ joined_as e.outcome → None ≡ nth ks v → ks ≡ w.askers → o ≡ None
    → IsPost old (SendWelcome v) o
no_asker_at w old v p log ks now e c o here count le is same view joins asks askers none =
    subst (λ (o : Option Letter). IsPost old (SendWelcome v) o) (sym none) (subst (λ (u : World). IsPost u (SendWelcome v) None) here
    (welcomes_none w v (subst (λ (p : ℕ). v ≤ p) count le) (inr (e, found w.log log v now e is same view, inr (c, sym joins, missing w.askers ks v asks askers)))))

-- a node's id has joined
pub copy_joined : InEachGoodWorld HoldersJoined → (w : World) (s : Served) (k c : ℕ) (ns : List Node) (now n : Node) → ServesGoodWorld s w → Some now ≡ nth ns k → ns ≡ w.nodes → n ≡ now → n.client.id ≡ Some c → IsTrue (joined s.state c)
copy_joined joins w s k c ns now n running is same view id =
    subst (λ (s : Served). IsTrue (joined s.state c)) (sym running.serves) (joins w running.good k c n (record { is = found w.nodes ns k now n is same view; id = id }))
