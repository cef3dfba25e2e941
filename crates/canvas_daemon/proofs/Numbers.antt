-- A word spells one number.
use Rattle.std.proofs.Common.{◌≡◌, ℕ, ◌<◌, ◌^◌, List, sym, ◌∙◌, arith}
use Rattle.std.specs.Fmt.{decimal}
use Rattle.std.proofs.lemmas.Fmt.{decimal_injective}

pub one_number : (word : List ℕ) (m n : ℕ) → m < 2 ^ 32 → n < 2 ^ 32 → word ≡ decimal m → word ≡ decimal n → m ≡ n
one_number word m n small other is is_other = decimal_injective m n (omega arith) (omega arith) (sym is ∙ is_other)
