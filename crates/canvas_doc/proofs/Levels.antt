-- What lies so many steps below an object, level by level; and how many steps there can be.
use Rattle.std.proofs.Common.{◌≡◌, ◌≢◌, ◌⊎◌, inl, inr, ℕ, zero, suc, ◌+◌, ◌-◌, ◌≤◌, ◌<◌, List, [], ◌∷◌, ◌++◌, length, Some, None, refl, sym, ap, subst, arith}
use Rattle.std.specs.Prelude.{Bool, true, false, IsTrue, ◌↔◌, is_some, nat_le, Option}
use Rattle.std.proofs.lemmas.Bool.Decides.{nat_tests}
use Rattle.canvas_model.proofs.Tests.{le_true}
use Rattle.std.specs.Option.{option_map}
use Rattle.std.specs.List.{Contains}
use Rattle.std.specs.FinMap as map
use Rattle.std.proofs.lemmas.Bool.{cases_eq, cases_lt}
use Rattle.std.proofs.lemmas.List.Elements.{Contains-append_cases, Contains-append_left, Contains-append_right}
use Rattle.canvas_model.specs.declared.ObjId.{ObjId}
use Rattle.canvas_model.specs.Ids.{root}
use Rattle.canvas_model.specs.Document.{Doc, IsDocument, Object, Place, live, place_of}
use Rattle.canvas_model.specs.Chain.{InTree}
use Rattle.canvas_model.specs.Children.{AreChildren, parent_of}
use Rattle.canvas_model.specs.Depth.{LiesBelow, itself, through, IsHeight, HasDepth, IsTooDeepUnder, MovesTooDeep, PassesLimit, depth_limit}
use Rattle.canvas_model.proofs.Children.{child_place}
use Rattle.canvas_model.proofs.Depths.{below_steps, steps_below, steps_end, steps_more, one_number}
use Rattle.canvas_doc.specs.Levels.{AreUnder}
use Rattle.canvas_doc.proofs.Climbed.{Reaches, short}

-- these lie n steps below o
abbrev pub IsLevel : Doc → ℕ → ObjId → List ObjId → Type 0
IsLevel d n o ids = (q : ObjId) → Contains ids q ↔ LiesBelow d n q o

pub lone : (o q : ObjId) → Contains (o ∷ []) q → o ≡ q
lone o q (zero, lt, is) = is
lone o q (suc k, lt, is) = absurd (omega arith)

pub nobody : (q : ObjId) → Contains [] q → ⊥
nobody q (k, lt, is) = omega (arith, lt)

pub level_first : (d : Doc) (o : ObjId) (ids : List ObjId) → ids ≡ o ∷ [] → live d o ≡ true → IsLevel d 0 o ids
level_first d o ids is alive q = (
  (λ inside. subst (λ x. LiesBelow d 0 x o) (lone o q (subst (λ xs. Contains xs q) is inside)) (itself alive)),
  (λ b. subst (λ xs. Contains xs q) (sym is) (here b refl refl)),
)
  where
    here : {n : ℕ} {p r : ObjId} → LiesBelow d n p r → n ≡ 0 → r ≡ o → Contains (o ∷ []) p
    here (itself a) zero_steps same = (0, omega arith, sym same)
    here (through place at up) zero_steps same = absurd (omega arith)

pub level_next : (d : Doc) (n : ℕ) (o : ObjId) (ids more : List ObjId) → IsLevel d n o ids → AreUnder d ids more → IsLevel d (suc n) o more
level_next d n o ids more level under q = ((λ inside. up (((under q).0) inside)), (λ b. down b refl refl))
  where
    up : (p : ObjId) × Contains ids p × (parent_of d q ≡ Some p) → LiesBelow d (suc n) q o
    up (p, inside, parent) =
        let at = child_place d q p parent in
        through at.0 at.1 (subst (λ x. LiesBelow d n x o) (sym at.2) (((level p).0) inside))

    down : {m : ℕ} {p r : ObjId} → LiesBelow d m p r → r ≡ o → m ≡ suc n → Contains more p
    down (itself a) to same = absurd (omega (arith, same))
    down {p = p} {r = r} (through {n = k} place at rest) to same =
        let fewer : k ≡ n = omega (arith, same) in
        let here : LiesBelow d n place.parent o = subst (λ x. LiesBelow d n place.parent x) to (subst (λ j. LiesBelow d j place.parent r) fewer rest) in
        ((under p).1) (place.parent, ((level place.parent).1) here, ap (option_map (λ (x : Place). x.parent)) at)

-- fewer steps lead to something on the way
pub on_the_way : {d : Doc} {m : ℕ} {q o : ObjId} (n : ℕ) → n ≤ m → LiesBelow d m q o → (p : ObjId) × LiesBelow d n p o
on_the_way {d} {q = q} n few (itself a) = (q, subst (λ k. LiesBelow d k q q) (let e : 0 ≡ n = omega arith in e) (itself a))
on_the_way {d} {q = q} {o = o} n few (through {n = k} place at up) = by (cases_eq n (suc k)) (λ less. on_the_way n less up)
  where
    by : (n ≡ suc k) ⊎ (n ≢ suc k) → (n ≤ k → (p : ObjId) × LiesBelow d n p o) → (p : ObjId) × LiesBelow d n p o
    by (inl same) rest = (q, subst (λ j. LiesBelow d j q o) (sym same) (through place at up))
    by (inr other) rest = rest (omega (arith, few, other))

pub level_empty : (d : Doc) (n : ℕ) (o : ObjId) (ids : List ObjId) → IsLevel d n o ids → length ids ≡ 0 → (m : ℕ) → n ≤ m → (q : ObjId) → LiesBelow d m q o → ⊥
level_empty d n o ids level none m more q b = let way = on_the_way n more b in let inside = ((level way.0).1) way.1 in omega (arith, inside.1, none)

pub level_some : (d : Doc) (n : ℕ) (o : ObjId) (ids : List ObjId) → IsLevel d n o ids → 0 < length ids → (q : ObjId) × LiesBelow d n q o
level_some d n o [] level some = absurd (omega arith)
level_some d n o (q ∷ ids) level some = (q, ((level q).0) (0, omega arith, refl))

-- a climb takes fewer steps than there are objects
counted : (d : Doc) (n : ℕ) (q : ObjId) → live d root ≡ true → Reaches d n q root → (k : ℕ) × (k < n) × LiesBelow d k q root
counted d zero q alive r = absurd r
counted d (suc n) q alive (inl same) = (0, omega arith, subst (λ x. LiesBelow d 0 x root) (sym same) (itself alive))
counted d (suc n) q alive (inr (place, at, rest)) = let up = counted d n place.parent alive rest in (suc up.0, omega (arith, up.1), through place at up.2)

pub few_steps : (d : Doc) → place_of d root ≡ None → live d root ≡ true → (n : ℕ) (q o : ObjId) → InTree d o → LiesBelow d n q o → n < map.len d
few_steps d none alive n q o tree b =
    let up = below_steps tree in
    let all = steps_more b up.1 in
    let climb = counted d (map.len d) q alive (short (map.len d) d q root (omega arith) (steps_below all)) in
    let same : n + up.0 ≡ climb.0 = one_number d root none all refl climb.2 refl in
    omega (arith, same, climb.1)

-- the children of all so far, and of one more
pub under_none : (d : Doc) (ids : List ObjId) → ids ≡ [] → AreUnder d [] ids
under_none d ids is q = ((λ inside. absurd (nobody q (subst (λ xs. Contains xs q) is inside))), (λ h. absurd (nobody h.0 h.1)))

pub under_more : (d : Doc) (parents ids children more : List ObjId) (parent : ObjId) → AreUnder d parents ids → AreChildren d parent children → more ≡ ids ++ children → AreUnder d (parents ++ parent ∷ []) more
under_more d parents ids children more parent under are is q =
    ((λ inside. by (Contains-append_cases ids children q (subst (λ xs. Contains xs q) is inside))), (λ h. subst (λ xs. Contains xs q) (sym is) (back h.0 (Contains-append_cases parents (parent ∷ []) h.0 h.1) h.2)))
  where
    by : Contains ids q ⊎ Contains children q → (p : ObjId) × Contains (parents ++ parent ∷ []) p × (parent_of d q ≡ Some p)
    by (inl before) = let h = ((under q).0) before in (h.0, Contains-append_left parents (parent ∷ []) h.0 h.1, h.2)
    by (inr new) = (parent, Contains-append_right parents (parent ∷ []) parent (0, omega arith, refl), ((are.each q).0) new)

    back : (p : ObjId) → Contains parents p ⊎ Contains (parent ∷ []) p → parent_of d q ≡ Some p → Contains (ids ++ children) q
    back p (inl before) names = Contains-append_left ids children q (((under q).1) (p, before, names))
    back p (inr new) names = Contains-append_right ids children q (((are.each q).1) (subst (λ x. parent_of d q ≡ Some x) (sym (lone parent p new)) names))

-- ---- the limit

-- something lies as many steps below as the limit leaves under a parent of this depth
pub room_left : (d : Doc) (id parent : ObjId) (depth : ℕ) → place_of d root ≡ None → HasDepth d parent depth
    → ((q : ObjId) × LiesBelow d (depth_limit - depth) q id) ↔ ((q : ObjId) × (n : ℕ) × LiesBelow d n q id × PassesLimit d parent n)
room_left d id parent depth none at = (
  (λ h. (h.0, depth_limit - depth, h.1, (depth, at, omega arith))),
  (λ h.
      let same : depth ≡ (h.3).0 = one_number d root none at refl (h.3).1 refl in
      let far = (h.3).2 in
      on_the_way (depth_limit - depth) (omega (arith, same, far)) h.2),
)

-- nothing passes the limit under a parent that isn't in the tree
pub not_under : (d : Doc) (parent : ObjId) (n : ℕ) → (InTree d parent → ⊥) → PassesLimit d parent n → ⊥
not_under d parent n out passes = out (steps_below passes.1)

-- a parent that stands at the limit or deeper
pub at_limit : (d : Doc) (parent : ObjId) (depth : ℕ) → place_of d root ≡ None → HasDepth d parent depth → (depth_limit ≤ depth) ↔ IsTooDeepUnder d parent
at_limit d parent depth none at = (
  (λ far. (depth, at, omega (arith, far))),
  (λ h. let same : depth ≡ h.0 = one_number d root none at refl h.1 refl in let far = h.2 in omega (arith, same, far)),
)

-- the root is live
pub root_alive : (d : Doc) → IsDocument d → live d root ≡ true
root_alive d is = go (map.get d root) refl
  where
    go : (x : Option Object) → map.get d root ≡ x → live d root ≡ true
    go None gone = absurd (let a = ap (λ x. option_map (λ (o : Object). o.kind) x) gone in let b = is.root_kind in cc)
    go (Some o) there = ap is_some there

-- ---- what the calls do

-- a level, and the next one
pub level_more : (d : Doc) (n : ℕ) (o : ObjId) (ids parents more : List ObjId) → IsLevel d n o ids → parents ≡ ids → AreUnder d parents more → IsLevel d (n + 1) o more
level_more d n o ids parents more level same under =
    subst (λ k. IsLevel d k o more) (let e : suc n ≡ n + 1 = omega arith in e) (level_next d n o ids more level (subst (λ ps. AreUnder d ps more) same under))

pub nothing_below : (d : Doc) (steps : ℕ) (id : ObjId) → live d id ≡ false → IsTrue false ↔ ((q : ObjId) × LiesBelow d steps q id)
nothing_below d steps id dead = ((λ t. absurd (let f : false ≡ true = t in cc f)), (λ h. absurd (let alive = steps_end h.1 in cc (alive, dead))))

pub nothing_so_far : (d : Doc) (n steps : ℕ) (id : ObjId) (ids : List ObjId) → IsLevel d n id ids → length ids ≡ 0 → n ≤ steps → IsTrue false ↔ ((q : ObjId) × LiesBelow d steps q id)
nothing_so_far d n steps id ids level none most = ((λ t. absurd (let f : false ≡ true = t in cc f)), (λ h. absurd (level_empty d n id ids level none steps most h.0 h.1)))

pub something_there : (d : Doc) (n steps : ℕ) (id : ObjId) (ids : List ObjId) → IsLevel d n id ids → 0 < length ids → steps ≤ n → IsTrue true ↔ ((q : ObjId) × LiesBelow d steps q id)
something_there d n steps id ids level some least = ((λ t. let low = level_some d n id ids level some in on_the_way steps least low.1), (λ h. refl))

-- a level of some, and none below it
pub height_found : (d : Doc) (n : ℕ) (o : ObjId) (ids more : List ObjId) → IsLevel d n o ids → 0 < length ids → IsLevel d (n + 1) o more → length more ≡ 0 → IsHeight d o n
height_found d n o ids more level some next none = record {
  reached = level_some d n o ids level some;
  most = λ q m b. by q m b (cases_lt n m);
}
  where
    by : (q : ObjId) (m : ℕ) → LiesBelow d m q o → (n < m) ⊎ (m ≤ n) → m ≤ n
    by q m b (inl deeper) = absurd (level_empty d (n + 1) o more next none m (omega (arith, deeper)) q b)
    by q m b (inr within) = within

-- there can't be so many levels
pub height_never : (d : Doc) (n : ℕ) (o : ObjId) (ids : List ObjId) → IsDocument d → InTree d o → IsLevel d n o ids → 0 < length ids → map.len d ≤ n → ⊥
height_never d n o ids is tree level some many =
    let low = level_some d n o ids level some in
    let few = few_steps d is.root_place (root_alive d is) n low.0 o tree low.1 in
    omega (arith, few, many)

-- the climb to the root has come there
pub depth_there : (d : Doc) (steps : ℕ) (at id : ObjId) → IsDocument d → at ≡ root → ((n : ℕ) → LiesBelow d n at root → LiesBelow d (steps + n) id root) → HasDepth d id steps
depth_there d steps at id is same from = subst (λ k. LiesBelow d k id root) (let e : steps + 0 ≡ steps = omega arith in e) (from 0 (subst (λ x. LiesBelow d 0 x root) (sym same) (itself (root_alive d is))))

-- one step more
pub depth_more : (d : Doc) (steps : ℕ) (at id : ObjId) (place : Place) → place_of d at ≡ Some place → ((n : ℕ) → LiesBelow d n at root → LiesBelow d (steps + n) id root)
    → (n : ℕ) → LiesBelow d n place.parent root → LiesBelow d (steps + 1 + n) id root
depth_more d steps at id place is from n b = subst (λ k. LiesBelow d k id root) (let e : steps + suc n ≡ steps + 1 + n = omega arith in e) (from (suc n) (through place is b))

-- what is answered of a move under another parent
pub moves_deep : (d : Doc) (id parent : ObjId) (depth left : ℕ) (same far : Bool) → IsDocument d → HasDepth d parent depth → left ≡ depth_limit - depth
    → IsTrue same ↔ (parent_of d id ≡ Some parent) → same ≡ false → IsTrue far ↔ ((q : ObjId) × LiesBelow d left q id) → IsTrue far ↔ MovesTooDeep d id parent
moves_deep d id parent depth left same far is at left_is stays apart reach =
    let room = room_left d id parent depth is.root_place at in (
      (λ t.
          let low = reach.0 t in
          let far = room.0 (low.0, subst (λ k. LiesBelow d k low.0 id) left_is low.1) in
          ((λ names. let yes = stays.1 names in cc (yes, apart)), far.0, far.1, far.2, far.3)),
      (λ h. reach.1 (let low = room.1 (h.1, h.2, h.3, h.4) in (low.0, subst (λ k. LiesBelow d k low.0 id) (sym left_is) low.1))),
    )

-- and where the parent isn't in the tree
pub moves_nowhere : (d : Doc) (id parent : ObjId) → (InTree d parent → ⊥) → IsTrue false ↔ MovesTooDeep d id parent
moves_nowhere d id parent out = ((λ t. absurd (let f : false ≡ true = t in cc f)), (λ h. absurd (not_under d parent h.2 out h.4)))

-- what is answered of a new object under a parent of this depth
pub deep_under : (d : Doc) (parent : ObjId) (depth : ℕ) → IsDocument d → HasDepth d parent depth → IsTrue (nat_le 100 depth) ↔ IsTooDeepUnder d parent
deep_under d parent depth is at =
    let limit = at_limit d parent depth is.root_place at in
    ((λ t. limit.0 (le_true 100 depth t)), (λ h. at_least 100 depth (limit.1 h)))
  where
    at_least : (m n : ℕ) → m ≤ n → nat_le m n ≡ true
    at_least m n e = grind (arith, nat_tests, e)

-- and of one under a parent that isn't in the tree
pub deep_nowhere : (d : Doc) (parent : ObjId) → (InTree d parent → ⊥) → IsTrue false ↔ IsTooDeepUnder d parent
deep_nowhere d parent out = ((λ t. absurd (let f : false ≡ true = t in cc f)), (λ h. absurd (not_under d parent 0 out h)))
