-- The count falls by one with each growth, so it is 1 before one growth alone.
use Rattle.std.proofs.Common.{◌≡◌, ◌↔◌, ◌-◌, ℕ, zero, suc, true, arith}
use Rattle.refusing.specs.Count.{grown, left_after}

left-is : (number n : ℕ) → left_after number n ≡ number - n
left-is number zero = omega arith
left-is number (suc n) = omega (arith, left-is number n)

pub refuses-one : (number n : ℕ) → ((grown (left_after number n)).1 ≡ true) ↔ (number ≡ suc n)
refuses-one number n = (λ e. grind (arith, left-is number n, e), λ e. grind (arith, left-is number n, e))
