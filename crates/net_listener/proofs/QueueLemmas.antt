-- Queues as lists: what is in order, what is found, and what left.
use Rattle.std.proofs.Common.{◌≡◌, ℕ, zero, suc, All, ◌+◌, ◌-◌, ◌<◌, ◌≤◌, Bool, List, [], ◌∷◌, ◌++◌, length, get_or, drop, find, remove, refl, sym, ap, ◌∙◌, subst, ◌↔◌, false, true, Option, Some, None, IfSome, IfNone, IsSome, OnSome, option_map, option_to_list, position, slice_get, unwrap_or, IsPermutation, append-nil, append_assoc, le-ltb, lt-ltb, arith, ap₂, subst₂, inl, inr, not, take, take_all, length-drop, length-take-le, drop-drop, get_or-take, get_or-drop, add-zero}
use Rattle.std.specs.List.{position_or_len}
use Rattle.std.specs.Option.{option_map_or}
use Rattle.std.specs.List.Sorted.{IsNonDecreasingBy}
use Rattle.std.proofs.lemmas.List.{drop_all, get_or_default, length_push}
use Rattle.std.proofs.lemmas.List.Sums.{prefix_len-le-length}
use Rattle.std.proofs.lemmas.Bool.{cases_lt}
use Rattle.std.proofs.lemmas.List.Folds.{find_at}
use Rattle.std.proofs.lemmas.List.Sorted.{IsNonDecreasingBy-push, IsNonDecreasingBy-drop, IsPermutation-append_comm, IsPermutation-append_left, IsPermutation-append_right, IsPermutation-refl, IsPermutation-remove, IsPermutation-trans}
use Rattle.std.proofs.lemmas.Option.{slice_get-get_or, slice_get_read, slice_get_past}
use Rattle.net_listener.specs.declared.queue.Queue.{Queue}
use Rattle.net_listener.specs.declared.queue.Waiting.{Waiting}
use Rattle.net_listener.specs.Queues.{IsNextDue, LosesNone, Runs, has_number, last_until, place_of, waiting_of}

-- the two are two
false≢true : false ≡ true → ⊥
false≢true e = cc

-- the last is due when it says
pub last_until-at : {T : Type 0} (ws : List (Waiting T)) (n : ℕ) (w : Waiting T) → n ≡ length ws → 0 < n → w ≡ get_or ws (n - 1) w → w.until ≡ last_until ws
last_until-at {T} ws n w e some at =
    let last : slice_get ws (n - 1) ≡ Some w = slice_get_read ws n (n - 1) w e (omega arith) at in
    sym (ap (λ (k : ℕ). option_map_or (λ (v : Waiting T). v.until) (slice_get ws (k - 1)) 0) (sym e) ∙ ap (λ (o : Option (Waiting T)). option_map_or (λ (v : Waiting T). v.until) o 0) last)

pub last_until-none : {T : Type 0} (ws : List (Waiting T)) → length ws ≤ 0 → 0 ≡ last_until ws
last_until-none [] none = refl
last_until-none (w ∷ ws) none = absurd (omega arith)

-- none is due later than the last
pub ordered_push : {T : Type 0} (ws : List (Waiting T)) (w : Waiting T) → IsNonDecreasingBy (λ (v : Waiting T). v.until) ws → last_until ws ≤ w.until
    → IsNonDecreasingBy (λ (v : Waiting T). v.until) (ws ++ w ∷ [])
ordered_push ws w ordered later =
    IsNonDecreasingBy-push (λ v. v.until) ws w ordered
    (λ d some.
    let s : slice_get ws (length ws - 1) ≡ Some (get_or ws (length ws - 1) d) = slice_get-get_or ws (length ws - 1) d (omega arith) in
    rw s at later)

-- what is left of a queue is in order
pub ordered_rest : {T : Type 0} (ws vs : List (Waiting T)) → vs ≡ drop 1 ws → IsNonDecreasingBy (λ (v : Waiting T). v.until) ws
    → IsNonDecreasingBy (λ (v : Waiting T). v.until) vs
ordered_rest {T} ws vs e ordered = subst (λ (us : List (Waiting T)). IsNonDecreasingBy (λ (v : Waiting T). v.until) us) (sym e) (IsNonDecreasingBy-drop (λ v. v.until) 1 ws ordered)

-- one more waits, and the first has left
pub ordered_put : {T : Type 0} (ws ms vs : List (Waiting T)) (w : Waiting T) → ms ≡ ws ++ w ∷ [] → vs ≡ drop 1 ms → IsNonDecreasingBy (λ (v : Waiting T). v.until) ws
    → last_until ws ≤ w.until → IsNonDecreasingBy (λ (v : Waiting T). v.until) vs
ordered_put {T} ws ms vs w put rest ordered later =
    ordered_rest ms vs rest (subst (λ (us : List (Waiting T)). IsNonDecreasingBy (λ (v : Waiting T). v.until) us) (sym put) (ordered_push ws w ordered later))

-- as many wait as before
pub length_put : {X : Type 0} (xs ms ys : List X) (x : X) → ms ≡ xs ++ x ∷ [] → ys ≡ drop 1 ms → length ys ≡ length xs
length_put xs ms ys x put rest = ap length rest ∙ length-drop 1 ms ∙ omega (arith, ap length put, length_push xs x)

-- the first is due first
pub next_is_least : {T : Type 0} (ws : List (Waiting T)) (first : Waiting T) → 0 < length ws → first ≡ get_or ws 0 first
    → IsNonDecreasingBy (λ (v : Waiting T). v.until) ws → IsNextDue ws first.until
next_is_least ws first some e ordered = (
  (0, first, some, sym e, refl),
  λ k d below. subst (λ n. n ≤ (get_or ws k d).until) (ap (λ w. w.until) (get_or_default ws 0 d first some ∙ sym e)) (ordered 0 k d (omega arith) below),
)

-- what came and waits, and what left, where the first left
pub accounts_front : {X : Type 0} (xs ys : List X) (left : Option X) → xs ≡ option_to_list left ++ ys → IsPermutation xs (ys ++ option_to_list left)
accounts_front {X} xs ys left e =
    subst (λ (zs : List X). IsPermutation zs (ys ++ option_to_list left)) (sym e) (IsPermutation-append_comm (option_to_list left) ys)

-- the same, where none came
pub accounts_first : {X : Type 0} (xs ys : List X) (left : Option X) → xs ≡ option_to_list left ++ ys → IsPermutation (xs ++ []) (ys ++ option_to_list left)
accounts_first xs ys left e = accounts_front (xs ++ []) ys left (append-nil xs ∙ e)

-- nothing leaves past the end
pub remove_past : {X : Type 0} (xs : List X) (i : ℕ) → length xs ≤ i → remove xs i ≡ xs
remove_past xs i past = ap₂ (λ us vs. us ++ vs) (take_all i xs past) (drop_all (suc i) xs (omega arith)) ∙ append-nil xs

-- the same, where one of any place left, if one stands there: it was what stands there, and what is left is the list without it
pub left_from : {X Q : Type 0} (items : Q → List X) (old new : Q) (n i : ℕ) (left : Option X) → n ≡ length (items old) → IsSome left ↔ (i < n)
    → IfSome left (λ (x : X). x ≡ get_or (items old) i x) → OnSome left (items new ≡ remove (items old) i) → IfNone left (new ≡ old)
    → (left ≡ slice_get (items old) i) × (items new ≡ remove (items old) i) × IsPermutation (items old ++ []) (items new ++ option_to_list left)
left_from {X} items old new n i None e some at is same =
    let past : length (items old) ≤ i = elim (cases_lt i n) [ inl below ↦ absurd (false≢true (some.1 below)) | inr past ↦ omega arith ] in
    let none : items new ≡ items old = ap items same in (
      sym (slice_get_past (items old) i past),
      none ∙ sym (remove_past (items old) i past),
      subst (λ (zs : List X). IsPermutation (items old ++ []) (zs ++ [])) (sym none) (IsPermutation-refl (items old ++ [])),
    )
left_from {X} items old new n i (Some x) e some at is same =
    let below : i < n = some.0 refl in
    let within : i < length (items old) = omega arith in
    let xs : List X = items old in
    let moved : IsPermutation xs (x ∷ remove xs i) = IsPermutation-remove xs i x within at in
    let behind : IsPermutation (x ∷ remove xs i) (remove xs i ++ x ∷ []) = IsPermutation-append_comm (x ∷ []) (remove xs i) in
    let all : IsPermutation xs (remove xs i ++ x ∷ []) = IsPermutation-trans xs (x ∷ remove xs i) (remove xs i ++ x ∷ []) moved behind in (
      sym (slice_get_read xs (length xs) i x refl within at),
      is,
      subst₂ (λ (us vs : List X). IsPermutation us (vs ++ x ∷ [])) (sym (append-nil xs)) (sym is) all,
    )

-- the first that passes is found at its place
pub find_place : {T : Type 0} (ws : List (Waiting T)) (number : ℕ) → find (has_number number) ws ≡ slice_get ws (place_of number ws)
find_place ws number = find_at (has_number number) ws

pub found_at : {T : Type 0} (ws : List (Waiting T)) (number i : ℕ) (w : Waiting T) → i ≡ place_of number ws → i < length ws → w ≡ get_or ws i w
    → Some w.item ≡ option_map (λ (v : Waiting T). v.item) (find (has_number number) ws)
found_at {T} ws number i w e within at =
    let s : slice_get ws i ≡ Some w = slice_get_read ws (length ws) i w refl within at in
    ap (option_map (λ (v : Waiting T). v.item)) (sym (find_place ws number ∙ ap (slice_get ws) (sym e) ∙ s))

pub found_nowhere : {T : Type 0} (ws : List (Waiting T)) (number i : ℕ) → i ≡ place_of number ws → length ws ≤ i
    → None ≡ option_map (λ (v : Waiting T). v.item) (find (has_number number) ws)
found_nowhere {T} ws number i e past =
    ap (option_map (λ (v : Waiting T). v.item)) (sym (find_place ws number ∙ ap (slice_get ws) (sym e) ∙ slice_get_past ws i past))

-- the place by way of `position`
pub place_from_position : {X : Type 0} (p : X → Bool) (xs : List X) → unwrap_or (position p xs) (length xs) ≡ position_or_len p xs
place_from_position p xs =
    elim (cases_lt (position_or_len p xs) (length xs)) [
      | inl below ↦ rw (lt-ltb _ _ below) refl
      | inr past ↦ rw (le-ltb _ _ past) (omega (arith, past, prefix_len-le-length (λ x. not (p x)) xs))
    ]

-- one more has left
pub dropped_more : {X : Type 0} (xs ys zs : List X) (n : ℕ) (x : X) → ys ≡ drop n xs → ys ≡ x ∷ zs → (zs ≡ drop (n + 1) xs) × (n + 1 ≤ length xs)
dropped_more xs ys zs n x dropped first =
    let one : length (drop n xs) ≡ length zs + 1 = ap length (sym dropped ∙ first) ∙ omega arith in
    (ap (drop 1) (sym first ∙ dropped) ∙ drop-drop 1 n xs, omega (arith, one, length-drop n xs))

-- all have left
pub dropped_all : {X : Type 0} (xs ys : List X) (n : ℕ) → ys ≡ drop n xs → ys ≡ [] → length xs ≤ n
dropped_all xs ys n dropped none =
    let no : length (drop n xs) ≡ 0 = ap length (sym dropped ∙ none) in
    omega (arith, no, length-drop n xs)

-- one more was due
pub due_more : {T : Type 0} (ws vs : List (Waiting T)) (n now : ℕ) (w : Waiting T) → n < length ws → vs ≡ drop n ws → (us : List (Waiting T)) → vs ≡ w ∷ us → w.until ≤ now
    → All (λ (v : Waiting T). v.until ≤ now) (take n ws) → All (λ (v : Waiting T). v.until ≤ now) (take (n + 1) ws)
due_more {T} ws vs n now w below dropped us first due all k d within =
    let len : length (take (n + 1) ws) ≡ n + 1 = length-take-le (n + 1) ws (omega arith) in
    let len' : length (take n ws) ≡ n = length-take-le n ws (omega arith) in
    let here : get_or (take (n + 1) ws) k d ≡ get_or ws k d = get_or-take (n + 1) ws k d (omega (arith, len, within)) in
    let at : get_or ws n d ≡ w = ap (λ (i : ℕ). get_or ws i d) (sym (add-zero n)) ∙ sym (get_or-drop n ws 0 d) ∙ ap (λ (vs : List (Waiting T)). get_or vs 0 d) (sym dropped ∙ first) in
    subst (λ (v : Waiting T). v.until ≤ now) (sym here)
    (elim (cases_lt k n) [
      | inl earlier ↦ subst (λ (v : Waiting T). v.until ≤ now) (get_or-take n ws k d earlier) (all k d (omega (arith, len')))
      | inr later ↦ subst (λ (i : ℕ). (get_or ws i d).until ≤ now) (omega (arith, len)) (subst (λ (v : Waiting T). v.until ≤ now) (sym at) due)
    ])

same_permutes : {X : Type 0} (xs ys : List X) → xs ≡ ys → IsPermutation xs ys
same_permutes xs ys e = subst (λ zs. IsPermutation xs zs) e (IsPermutation-refl xs)

-- what two calls account for, they account for together
pub accounts_join : {X : Type 0} (q m r earlier last gone next : List X) → IsPermutation (q ++ earlier) (m ++ gone) → IsPermutation (m ++ last) (r ++ next)
    → IsPermutation (q ++ (earlier ++ last)) (r ++ (gone ++ next))
accounts_join {X} q m r earlier last gone next first second =
    let a : IsPermutation (q ++ (earlier ++ last)) ((q ++ earlier) ++ last) = same_permutes _ _ (sym (append_assoc q earlier last)) in
    let b : IsPermutation ((q ++ earlier) ++ last) ((m ++ gone) ++ last) = IsPermutation-append_left last (q ++ earlier) (m ++ gone) first in
    let c : IsPermutation ((m ++ gone) ++ last) (m ++ (gone ++ last)) = same_permutes _ _ (append_assoc m gone last) in
    let d : IsPermutation (m ++ (gone ++ last)) (m ++ (last ++ gone)) = IsPermutation-append_right m (gone ++ last) (last ++ gone) (IsPermutation-append_comm gone last) in
    let e : IsPermutation (m ++ (last ++ gone)) ((m ++ last) ++ gone) = same_permutes _ _ (sym (append_assoc m last gone)) in
    let f : IsPermutation ((m ++ last) ++ gone) ((r ++ next) ++ gone) = IsPermutation-append_left gone (m ++ last) (r ++ next) second in
    let g : IsPermutation ((r ++ next) ++ gone) (r ++ (next ++ gone)) = same_permutes _ _ (append_assoc r next gone) in
    let h : IsPermutation (r ++ (next ++ gone)) (r ++ (gone ++ next)) = IsPermutation-append_right r (next ++ gone) (gone ++ next) (IsPermutation-append_comm next gone) in
    let ab : IsPermutation (q ++ (earlier ++ last)) ((m ++ gone) ++ last) = IsPermutation-trans _ _ _ a b in
    let cd : IsPermutation ((m ++ gone) ++ last) (m ++ (last ++ gone)) = IsPermutation-trans _ _ _ c d in
    let ef : IsPermutation (m ++ (last ++ gone)) ((r ++ next) ++ gone) = IsPermutation-trans _ _ _ e f in
    let gh : IsPermutation ((r ++ next) ++ gone) (r ++ (gone ++ next)) = IsPermutation-trans _ _ _ g h in
    IsPermutation-trans _ _ _ (IsPermutation-trans _ _ _ ab cd) (IsPermutation-trans _ _ _ ef gh)

-- so do any calls
pub run_accounts : {T : Type 0} (n : ℕ) (q : Queue T) (came left : List (Waiting T)) (r : Queue T) → Runs n q came r left
    → IsPermutation (waiting_of q ++ came) (waiting_of r ++ left)
run_accounts zero q came left r run = same_permutes _ _ (ap₂ (λ us vs. us ++ vs) (sym run.0) (run.1 ∙ sym run.2))
run_accounts {T} (suc n) q came left r run =
    let before : Queue T = run.0 in
    let all : IsPermutation (waiting_of q ++ (run.1 ++ run.3)) (waiting_of r ++ (run.2 ++ run.4)) =
    accounts_join (waiting_of q) (waiting_of before) (waiting_of r) run.1 run.3 run.2 run.4 (run_accounts n q run.1 run.2 before run.5) run.6 in
    subst₂ (λ (us vs : List (Waiting T)). IsPermutation (waiting_of q ++ us) (waiting_of r ++ vs)) (sym run.7) (sym run.8) all

-- a queue that is empty at first loses none
pub loses_none : {T : Type 0} (q : Queue T) → waiting_of q ≡ [] → LosesNone q
loses_none {T} q none n came left r run = subst (λ (ws : List (Waiting T)). IsPermutation (ws ++ came) (waiting_of r ++ left)) none (run_accounts n q came left r run)

-- none waits where all have left
pub none_left : {T : Type 0} (ws vs : List (Waiting T)) (n now : ℕ) → length ws ≤ n → vs ≡ drop n ws → All (λ (v : Waiting T). now < v.until) vs
none_left ws vs n now past dropped k d below = omega (arith, ap length dropped, length-drop n ws)
