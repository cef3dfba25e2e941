-- What a test that was made says, and what isn't denied where it can be decided.
use Rattle.std.proofs.Common.{◌≡◌, ◌≢◌, ◌⊎◌, ℕ, ◌≤◌, ◌<◌, refl, arith}
use Rattle.std.proofs.lemmas.Bool.Decides.{nat_tests}
use Rattle.std.specs.Prelude.{Bool, true, false, ◌==◌, nat_le, nat_lt}

pub le_true : (a b : ℕ) → nat_le a b ≡ true → a ≤ b
le_true a b h = grind (arith, nat_tests)

pub le_false : (a b : ℕ) → nat_le a b ≡ false → b < a
le_false a b h = grind (arith, nat_tests)

pub lt_true : (a b : ℕ) → nat_lt a b ≡ true → a < b
lt_true a b h = grind (arith, nat_tests)

pub lt_false : (a b : ℕ) → nat_lt a b ≡ false → b ≤ a
lt_false a b h = grind (arith, nat_tests)

pub eq_true : (a b : ℕ) → (a == b) ≡ true → a ≡ b
eq_true a b h = grind (arith, nat_tests)

pub eq_false : (a b : ℕ) → (a == b) ≡ false → a ≢ b
eq_false a b h = grind (arith, nat_tests)

pub not_false : (b : Bool) → (b ≡ false → ⊥) → b ≡ true
not_false true h = refl
not_false false h = absurd (h refl)

pub from_dec : {P : Type 0} → Dec P → ((P → ⊥) → ⊥) → P
from_dec (yes p) h = p
from_dec (no p) h = absurd (h p)

-- of two numbers that differ one is less
pub one_less : (a b : ℕ) → a ≢ b → (a < b) ⊎ (b < a)
one_less a b h = grind arith
