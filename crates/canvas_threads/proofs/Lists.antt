-- Lists that stand beside each other.
use Rattle.std.proofs.Common.{◌≡◌, ℕ, suc, ◌<◌, List, [], ◌∷◌, ◌++◌, length, Result, Ok, Err, ap, sym, ◌∙◌, subst, arith, append_assoc, append-nil}
use Rattle.std.specs.Prelude.{All, IfOk, map, slice_index_or}
use Rattle.std.proofs.lemmas.List.{length-map}
use Rattle.std.proofs.lemmas.List.Elements.{All-cons, All-nil}
use Rattle.canvas_threads.specs.Worked.{Beside}

module _ {A B : Type 0} (P : A → B → Type 0) where
  -- what completes the rest completes the whole
  abbrev pub Completes : List A → List A → List B → Type 0
  Completes all rest done = (ys : List B) → Beside P rest ys → Beside P all (done ++ ys)

  pub whole : (all : List A) → Completes all all []
  whole all ys h = h

  one_more : (all rest : List A) (done : List B) (x : A) (y : B) → Completes all (x ∷ rest) done → P x y → Completes all rest (done ++ y ∷ [])
  one_more all rest done x y c p ys h = subst (λ (zs : List B). Beside P all zs) (sym (append_assoc done (y ∷ []) ys)) (c (y ∷ ys) (p, h))

  pub pushed : (all rest rest' : List A) (done done' : List B) (x : A) (y : B) → rest ≡ x ∷ rest' → done' ≡ done ++ y ∷ [] → P x y → Completes all rest done → Completes all rest' done'
  pushed all rest rest' done done' x y first more p c =
      subst (λ (zs : List B). Completes all rest' zs) (sym more) (one_more all rest' done x y (subst (λ (xs : List A). Completes all xs done) first c) p)

  pub complete : (all rest : List A) (done : List B) → length rest ≡ 0 → Completes all rest done → Beside P all done
  complete all [] done none c = subst (λ (zs : List B). Beside P all zs) (append-nil done) (c [] tt)
  complete all (x ∷ xs) done none c = absurd (omega (arith, none))

-- what holds of each pair by its index, where each result is what became of the element beside it
pub beside_each : {A B E : Type 0} (P : A → B → Type 0) (xs : List A) (rs : List (Result B E)) (ys : List B) → length rs ≡ length xs
    → ((i : ℕ) (d : A) (e : Result B E) → i < length xs → IfOk (slice_index_or rs i e) (λ y. P (slice_index_or xs i d) y)) → map Ok ys ≡ rs → Beside P xs ys
beside_each {A = A} {B = B} {E = E} P xs rs ys len each is =
    walk xs ys
    (sym (length-map {B = Result B E} ys Ok) ∙ (ap length is ∙ len))
    (λ i d e within. subst (λ (zs : List (Result B E)). IfOk (slice_index_or zs i e) (λ y. P (slice_index_or xs i d) y)) (sym is) (each i d e within))
  where
    walk : (xs : List A) (ys : List B) → length ys ≡ length xs → ((i : ℕ) (d : A) (e : Result B E) → i < length xs → IfOk (slice_index_or (map Ok ys) i e) (λ y. P (slice_index_or xs i d) y)) → Beside P xs ys
    walk [] [] same h = tt
    walk [] (y ∷ ys) same h = absurd (omega (arith, same))
    walk (x ∷ xs) [] same h = absurd (omega (arith, same))
    walk (x ∷ xs) (y ∷ ys) same h = (h 0 x (Ok y) (omega arith), walk xs ys (omega (arith, same)) (λ i d e within. h (suc i) d e (omega (arith, within))))

-- what holds of what is made of each element
pub beside_made : {A B D : Type 0} (R : D → B → Type 0) (f : A → D) (xs : List A) (ys : List B) → Beside (λ x y. R (f x) y) xs ys → Beside R (map f xs) ys
beside_made R f [] [] p = tt
beside_made R f [] (y ∷ ys) p = absurd p
beside_made R f (x ∷ xs) [] p = absurd p
beside_made R f (x ∷ xs) (y ∷ ys) p = (p.0, beside_made R f xs ys p.1)

-- what holds of the first and the third where the second is beside both
pub beside_through : {A B C : Type 0} (P : A → B → Type 0) (Q : B → C → Type 0) (R : A → C → Type 0) (xs : List A) (ys : List B) (zs : List C)
    → Beside P xs ys → Beside Q ys zs → ((x : A) (y : B) (z : C) → P x y → Q y z → R x z) → Beside R xs zs
beside_through P Q R [] [] [] p q h = tt
beside_through P Q R [] [] (z ∷ zs) p q h = absurd q
beside_through P Q R [] (y ∷ ys) zs p q h = absurd p
beside_through P Q R (x ∷ xs) [] zs p q h = absurd p
beside_through P Q R (x ∷ xs) (y ∷ ys) [] p q h = absurd q
beside_through P Q R (x ∷ xs) (y ∷ ys) (z ∷ zs) p q h = (h x y z p.0 q.0, beside_through P Q R xs ys zs p.1 q.1 h)

-- the same of what a call answers
pub worked_ok : {A B D V E F : Type 0} (R : D → B → Type 0) (plan : A → D) (xs : List A) (ds : List D) (rs : List (Result B E)) (items_of : V → List B) (r : Result V F) → map plan xs ≡ ds → length rs ≡ length xs
    → ((i : ℕ) (d : A) (e : Result B E) → i < length xs → IfOk (slice_index_or rs i e) (λ y. R (plan (slice_index_or xs i d)) y)) → IfOk r (λ v. map Ok (items_of v) ≡ rs) → IfOk r (λ v. Beside R ds (items_of v))
worked_ok {B = B} {D = D} R plan xs ds rs items_of (Ok v) made len each is =
    subst (λ (zs : List D). Beside R zs (items_of v)) made
    (beside_made R plan xs (items_of v) (beside_each (λ x y. R (plan x) y) xs rs (items_of v) len each is))
worked_ok R plan xs ds rs items_of (Err e) made len each is = tt

pub through_ok : {A B C V E : Type 0} (P : A → B → Type 0) (Q : B → C → Type 0) (R : A → C → Type 0) (xs : List A) (ys : List B) (items_of : V → List C) (r : Result V E)
    → Beside P xs ys → IfOk r (λ v. Beside Q ys (items_of v)) → ((x : A) (y : B) (z : C) → P x y → Q y z → R x z) → IfOk r (λ v. Beside R xs (items_of v))
through_ok P Q R xs ys items_of (Ok v) p q h = beside_through P Q R xs ys (items_of v) p q h
through_ok P Q R xs ys items_of (Err e) p q h = tt

-- what holds of each second element
pub all_beside : {A B : Type 0} (P : A → B → Type 0) (Q : B → Type 0) (xs : List A) (ys : List B) → ((x : A) (y : B) → P x y → Q y) → Beside P xs ys → All Q ys
all_beside P Q [] [] each p = All-nil Q
all_beside P Q [] (y ∷ ys) each p = absurd p
all_beside P Q (x ∷ xs) [] each p = absurd p
all_beside P Q (x ∷ xs) (y ∷ ys) each p = All-cons Q y ys (each x y p.0) (all_beside P Q xs ys each p.1)

-- what follows for each pair, by what is made of each first element
beside_weaker : {A B C : Type 0} (P : A → B → Type 0) (Q : C → B → Type 0) (f : A → C) (xs : List A) (ys : List B) → ((x : A) (y : B) → P x y → Q (f x) y) → Beside P xs ys → Beside Q (map f xs) ys
beside_weaker P Q f [] [] each p = tt
beside_weaker P Q f [] (y ∷ ys) each p = absurd p
beside_weaker P Q f (x ∷ xs) [] each p = absurd p
beside_weaker P Q f (x ∷ xs) (y ∷ ys) each p = (each x y p.0, beside_weaker P Q f xs ys each p.1)

pub weaker_ok : {A B C V E : Type 0} (P : A → B → Type 0) (Q : C → B → Type 0) (f : A → C) (xs : List A) (items_of : V → List B) (r : Result V E)
    → ((x : A) (y : B) → P x y → Q (f x) y) → IfOk r (λ v. Beside P xs (items_of v)) → IfOk r (λ v. Beside Q (map f xs) (items_of v))
weaker_ok P Q f xs items_of (Ok v) each p = beside_weaker P Q f xs (items_of v) each p
weaker_ok P Q f xs items_of (Err e) each p = tt
