-- Segments that stand in memory, one of which is put or deleted.
use Rattle.std.proofs.Common.{◌≡◌, ◌<◌, ◌≤◌, inl, inr, ℕ, zero, suc, List, [], ◌∷◌, ◌++◌, length, take, drop, get_or, set, refl, sym, ◌∙◌, ap, arith, eq-eqb, ◌==◌}
use Rattle.std.specs.Prelude.{nat_lt, None}
use Rattle.std.proofs.lemmas.Bool.{ne_eqb, ltb-true, ltb-false, lt-ltb, le-ltb, eqb-true, cases_Bool}
use Rattle.canvas_shelf.specs.Disk.{Content}
use Rattle.canvas_etcd.specs.Stores.{NumbersFall, segment_bytes, size_at, put_behind, without_segment}
use Rattle.canvas_etcd.proofs.Held.{AreBelow, lower, rest_below, rest_falls, below_without, apart_of}
use Rattle.memory_store.specs.Held.{held_content, held_segment}
use Rattle.memory_store.specs.declared.held.Held.{Held}

pub put_new : (n : ℕ) (more : List ℕ) (xs : List Held) (i : ℕ) (y : Held) → held_segment y ≡ (n, more) → i ≤ length xs
    → ((k : ℕ) (h : Held) → k < i → n < (get_or xs k h).number) → ((h : Held) → i < length xs → (get_or xs i h).number < n)
    → held_content (take i xs ++ y ∷ drop i xs) ≡ put_behind n more (held_content xs)
put_new n more [] zero y is within above next = ap (λ (p : ℕ × List ℕ). p ∷ []) is
put_new n more [] (suc i) y is within above next = absurd (omega (arith, within))
put_new n more (x ∷ xs) zero y is within above next =
    let less : x.number < n = next x (omega arith) in
    rw (lt-ltb x.number n less) (ap (λ (p : ℕ × List ℕ). p ∷ held_segment x ∷ held_content xs) is)
put_new n more (x ∷ xs) (suc i) y is within above next =
    let high : n < x.number = above 0 x (omega arith) in
    rw (le-ltb x.number n (omega (arith, high)), ne_eqb x.number n (λ e. omega (arith, e, high)))
    (ap (λ (l : Content). held_segment x ∷ l) (put_new n more xs i y is (omega (arith, within)) (λ k h less. above (suc k) h (omega (arith, less))) (λ h less. next h (omega (arith, less)))))

pub put_more : (n : ℕ) (more : List ℕ) (xs : List Held) (i : ℕ) (x y : Held) → x ≡ get_or xs i x → x.number ≡ n → held_segment y ≡ (n, x.bytes.items ++ more) → i < length xs
    → ((k : ℕ) (h : Held) → k < i → n < (get_or xs k h).number) → held_content (set xs i y) ≡ put_behind n more (held_content xs)
put_more n more [] i x y at here is within above = absurd (omega (arith, within))
put_more n more (h ∷ xs) zero x y at here is within above =
    let same : h.number ≡ n = ap (λ (w : Held). w.number) (sym at) ∙ here in
    let bytes : x.bytes.items ≡ h.bytes.items = ap (λ (w : Held). w.bytes.items) at in
    rw (le-ltb h.number n (omega (arith, same)), eq-eqb h.number n same) (ap (λ (p : ℕ × List ℕ). p ∷ held_content xs) (is ∙ ap (λ (l : List ℕ). (n, l ++ more)) bytes))
put_more n more (h ∷ xs) (suc i) x y at here is within above =
    let high : n < h.number = above 0 h (omega arith) in
    rw (le-ltb h.number n (omega (arith, high)), ne_eqb h.number n (λ e. omega (arith, e, high)))
    (ap (λ (l : Content). held_segment h ∷ l) (put_more n more xs i x y at here is (omega (arith, within)) (λ k d less. above (suc k) d (omega (arith, less)))))

pub put_same : (xs : List Held) (i : ℕ) (x y : Held) → x ≡ get_or xs i x → held_segment y ≡ held_segment x → i < length xs → held_content (set xs i y) ≡ held_content xs
put_same [] i x y at is within = refl
put_same (h ∷ xs) zero x y at is within = ap (λ (p : ℕ × List ℕ). p ∷ held_content xs) (is ∙ ap held_segment at)
put_same (h ∷ xs) (suc i) x y at is within = ap (λ (l : Content). held_segment h ∷ l) (put_same xs i x y at is (omega (arith, within)))

pub taken_out : (n : ℕ) (xs : List Held) (i : ℕ) (x : Held) → x ≡ get_or xs i x → x.number ≡ n → i < length xs
    → ((k : ℕ) (h : Held) → k < i → n < (get_or xs k h).number) → held_content (take i xs ++ drop (suc i) xs) ≡ without_segment n (held_content xs)
taken_out n [] i x at here within above = absurd (omega (arith, within))
taken_out n (h ∷ xs) zero x at here within above =
    let same : h.number ≡ n = ap (λ (w : Held). w.number) (sym at) ∙ here in
    rw (eq-eqb h.number n same) refl
taken_out n (h ∷ xs) (suc i) x at here within above =
    let high : n < h.number = above 0 h (omega arith) in
    rw (ne_eqb h.number n (λ e. omega (arith, e, high))) (ap (λ (l : Content). held_segment h ∷ l) (taken_out n xs i x at here (omega (arith, within)) (λ k d less. above (suc k) d (omega (arith, less)))))

pub not_there : (n : ℕ) (xs : List Held) (i : ℕ) → NumbersFall (held_content xs) → ((k : ℕ) (h : Held) → k < i → n < (get_or xs k h).number) → ((h : Held) → i < length xs → (get_or xs i h).number < n)
    → i ≤ length xs → without_segment n (held_content xs) ≡ held_content xs
not_there n [] i falls above next within = refl
not_there n (x ∷ xs) zero falls above next within =
    let less : x.number < n = next x (omega arith) in
    below_without n (held_content (x ∷ xs)) (less, lower x.number n (held_content xs) less (rest_below (held_segment x) (held_content xs) falls))
not_there n (x ∷ xs) (suc i) falls above next within =
    let high : n < x.number = above 0 x (omega arith) in
    rw (ne_eqb x.number n (λ e. omega (arith, e, high)))
    (ap (λ (l : Content). held_segment x ∷ l) (not_there n xs i (rest_falls (held_segment x) (held_content xs) falls) (λ k d less. above (suc k) d (omega (arith, less))) (λ d less. next d (omega (arith, less))) (omega (arith, within))))

-- NUMBERS FALL

abbrev IsUnder : ℕ → Content → Type 0
IsUnder n [] = Unit {0}
IsUnder n (p ∷ held) = p.0 < n

falls_on : (p : ℕ × List ℕ) (held : Content) → IsUnder p.0 held → NumbersFall held → NumbersFall (p ∷ held)
falls_on p [] under falls = tt
falls_on p (q ∷ held) under falls = (under, falls)

under_of : (p : ℕ × List ℕ) (held : Content) → NumbersFall (p ∷ held) → IsUnder p.0 held
under_of p [] falls = tt
under_of p (q ∷ held) falls = falls.0

under_put : (m n : ℕ) (more : List ℕ) (held : Content) → n < m → IsUnder m held → IsUnder m (put_behind n more held)
under_put m n more [] less under = less
under_put m n more (p ∷ held) less under = elim (cases_Bool (nat_lt p.0 n)) [
  | inl below ↦ rw below less
  | inr not ↦ elim (cases_Bool (p.0 == n)) [
    | inl is ↦ rw (not, is) less
    | inr isnt ↦ rw (not, isnt) under
  ]
]

under_is : (m k : ℕ) (held : Content) → m ≡ k → IsUnder m held → IsUnder k held
under_is m k [] is under = tt
under_is m k (p ∷ held) is under = omega (arith, is, under)

pub falls_put : (n : ℕ) (more : List ℕ) (held : Content) → NumbersFall held → NumbersFall (put_behind n more held)
falls_put n more [] falls = tt
falls_put n more (p ∷ held) falls = elim (cases_Bool (nat_lt p.0 n)) [
  | inl below ↦ rw below (ltb-true p.0 n below, falls)
  | inr not ↦ elim (cases_Bool (p.0 == n)) [
    | inl is ↦ let here : p.0 ≡ n = eqb-true p.0 n is in rw (not, is) (falls_on (n, p.1 ++ more) held (under_is p.0 n held here (under_of p held falls)) (rest_falls p held falls))
    | inr isnt ↦
        let above : n ≤ p.0 = ltb-false p.0 n not in
        let less : n < p.0 = omega (arith, above, apart_of p.0 n isnt) in
        rw (not, isnt) (falls_on p (put_behind n more held) (under_put p.0 n more held less (under_of p held falls)) (falls_put n more held (rest_falls p held falls)))
  ]
]

-- what is below stays below
below_less : (m n : ℕ) (held : Content) → AreBelow m held → IsUnder m (without_segment n held)
below_less m n [] below = tt
below_less m n (p ∷ held) below = elim (cases_Bool (p.0 == n)) [
  | inl is ↦ rw is (first m held below.1)
  | inr isnt ↦ rw isnt below.0
]
  where
    first : (m : ℕ) (held : Content) → AreBelow m held → IsUnder m held
    first m [] below = tt
    first m (p ∷ held) below = below.0

pub falls_without : (n : ℕ) (held : Content) → NumbersFall held → NumbersFall (without_segment n held)
falls_without n [] falls = tt
falls_without n (p ∷ held) falls = elim (cases_Bool (p.0 == n)) [
  | inl is ↦ rw is (rest_falls p held falls)
  | inr isnt ↦ rw isnt (falls_on p (without_segment n held) (below_less p.0 n held (rest_below p held falls)) (falls_without n held (rest_falls p held falls)))
]

-- WHAT IS FOUND

pub size_none : (n : ℕ) (xs : List Held) → ((k : ℕ) (h : Held) → k < length xs → (get_or xs k h).number ≡ n → ⊥) → size_at n (held_content xs) ≡ None
size_none n [] other = refl
size_none n (x ∷ xs) other = rw (ne_eqb x.number n (other 0 x (omega arith))) (size_none n xs (λ k h less. other (suc k) h (omega (arith, less))))

pub bytes_found : (n : ℕ) (xs : List Held) (i : ℕ) (d : Held) → i < length xs → ((h : Held) → (get_or xs i h).number ≡ n) → ((k : ℕ) (h : Held) → k < i → (get_or xs k h).number ≡ n → ⊥) → segment_bytes n (held_content xs) ≡ (get_or xs i d).bytes.items
bytes_found n [] i d within here other = absurd (omega (arith, within))
bytes_found n (x ∷ xs) zero d within here other = rw (eq-eqb x.number n (here x)) refl
bytes_found n (x ∷ xs) (suc i) d within here other = rw (ne_eqb x.number n (other 0 x (omega arith))) (bytes_found n xs i d (omega (arith, within)) here (λ k h less. other (suc k) h (omega (arith, less))))
