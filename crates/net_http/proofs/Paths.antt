-- A target up to its query.
use Rattle.std.proofs.Common.{◌≡◌, ℕ, ◌≤◌, Bool, true, false, cond, ◌||◌, List, [], ◌∷◌, length, take, map, position, refl, sym, ap, arith, ltb, Some, None}
use Rattle.std.specs.List.{before_first, position_or_len, list_any}
use Rattle.std.proofs.lemmas.List.{take_all}

some_of : (b : Bool) (m n : ℕ) → Some m ≡ cond b (Some n) None → m ≡ n
some_of true m n e = cc
some_of false m n e = cc

none_of : (b : Bool) (n : ℕ) → None ≡ cond b (Some n) None → b ≡ false
none_of true n e = cc
none_of false n e = refl

-- up to the first place that passes
pub cut_at : (p : ℕ → Bool) (xs : List ℕ) (n : ℕ) → Some n ≡ position p xs → take n xs ≡ before_first p xs
cut_at p xs n e = ap (λ (k : ℕ). take k xs) (some_of (ltb (position_or_len p xs) (length xs)) n (position_or_len p xs) e)

-- where no place passes, all
pub no_cut : (p : ℕ → Bool) (xs : List ℕ) → None ≡ position p xs → xs ≡ before_first p xs
no_cut p xs e =
    let all : ltb (position_or_len p xs) (length xs) ≡ false = none_of (ltb (position_or_len p xs) (length xs)) (position_or_len p xs) e in
    let long : length xs ≤ position_or_len p xs = grind arith in
    sym (take_all (position_or_len p xs) xs long)

-- a test of what is made of each element
pub list_any_map : {X Y : Type 0} (p : Y → Bool) (f : X → Y) (xs : List X) → list_any p (map f xs) ≡ list_any (λ x. p (f x)) xs
list_any_map p f [] = refl
list_any_map p f (x ∷ xs) = ap (λ (b : Bool). p (f x) || b) (list_any_map p f xs)
