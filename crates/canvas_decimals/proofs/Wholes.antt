-- Digits read one after the other.
use Rattle.std.proofs.Common.{◌≡◌, ◌<◌, ◌≤◌, ℕ, suc, ◌+◌, ◌-◌, ◌*◌, ◌^◌, true, false, List, [], ◌∷◌, length, drop, drop-cons, get_or, refl, ap, subst, arith}
use Rattle.std.specs.Prelude.{nat_lt, Option, None, Some, IfNone, IfSome}
use Rattle.std.proofs.lemmas.Bool.{lt-ltb, le-ltb}
use Rattle.canvas_decimals.specs.Decimals.{are_digits, read_on, whole_of}

-- a number only grows
grows : (so_far : ℕ) (bs : List ℕ) → so_far ≤ read_on so_far bs
grows so_far [] = omega arith
grows so_far (b ∷ bs) = omega (arith, grows (so_far * 10 + (b - 48)) bs)

-- where a digit follows, the number grows ten times at least
pub steps : (so_far : ℕ) (text : List ℕ) (i : ℕ) → i < length text → so_far * 10 ≤ read_on so_far (drop i text)
steps so_far text i less =
    let is : drop i text ≡ get_or text i 0 ∷ drop (suc i) text = drop-cons text i 0 less in
    let up = grows (so_far * 10 + (get_or text i 0 - 48)) (drop (suc i) text) in
    omega (arith, up, ap (read_on so_far) is)

pub not_whole : (text : List ℕ) → are_digits text ≡ false → None ≡ whole_of text
unfolding whole_of
not_whole text other = rw other refl

pub whole_is : (text : List ℕ) (o : Option ℕ) → are_digits text ≡ true → IfSome o (λ n. n ≡ read_on 0 text) → IfSome o (λ n. n < 2 ^ 63) → IfNone o (2 ^ 63 ≤ read_on 0 text) → o ≡ whole_of text
unfolding whole_of
whole_is text None digits_are is small big = let above : nat_lt (read_on 0 text) (2 ^ 63) ≡ false = le-ltb (read_on 0 text) (2 ^ 63) big in rw (digits_are, above) refl
whole_is text (Some n) digits_are is small big =
    let below : nat_lt (read_on 0 text) (2 ^ 63) ≡ true = lt-ltb (read_on 0 text) (2 ^ 63) (subst (λ (k : ℕ). k < 2 ^ 63) is small) in rw (digits_are, below) (ap Some is)
