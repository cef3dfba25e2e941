-- The values of owners' keys are told apart.
use Rattle.std.proofs.Common.{◌≡◌, ◌<◌, ℕ, ◌+◌, ◌%◌, ◌^◌, List, [], ◌∷◌, ◌++◌, codes, decimal, refl, sym, ◌∙◌, ap, arith, append_assoc, length, false}
use Rattle.std.specs.Prelude.{◌==◌, if◌then◌else◌}
use Rattle.std.proofs.lemmas.Bool.{ne_eqb}
use Rattle.std.proofs.lemmas.Fmt.{decimal_by_steps, decimal_injective}
use Rattle.etcd_gateway.proofs.KeyLemmas.{backs}
use Rattle.etcd_gateway.specs.Owners.{EachValueIsOneTurn, owner_value}

-- what stands before the first space
before_space : List ℕ → List ℕ
before_space [] = []
before_space (b ∷ bs) = if b == 32 then [] else b ∷ before_space bs

-- no byte is a space
abbrev HasNoSpace : List ℕ → Type 0
HasNoSpace [] = Unit {0}
HasNoSpace (b ∷ bs) = (32 < b) × HasNoSpace bs

no_space_append : (xs : List ℕ) (b : ℕ) → HasNoSpace xs → 32 < b → HasNoSpace (xs ++ b ∷ [])
no_space_append [] b h above = (above, tt)
no_space_append (x ∷ xs) b h above = (h.0, no_space_append xs b h.1 above)

decimal_has_no_space : (n : ℕ) → n < 2 ^ 64 → HasNoSpace (decimal n)
decimal_has_no_space n small =
    decimal_by_steps (λ _ ds. HasNoSpace ds) (λ n one. (omega arith, tt)) (λ n ds more h. no_space_append ds (48 + n % 10) h (omega arith)) n small

before_is : (xs rest : List ℕ) → HasNoSpace xs → before_space (xs ++ 32 ∷ rest) ≡ xs
unfolding before_space
before_is [] rest h = refl
before_is (x ∷ xs) rest h =
    let other : (x == 32) ≡ false = ne_eqb x 32 (omega (arith, h.0)) in rw other (ap (λ (t : List ℕ). x ∷ t) (before_is xs rest h.1))

pub every_value : EachValueIsOneTurn
every_value l n m k l_small n_small m_small k_small e =
    let regrouped : decimal l ++ (codes " " ++ decimal n) ≡ decimal m ++ (codes " " ++ decimal k) =
    sym (append_assoc (decimal l) (codes " ") (decimal n)) ∙ e ∙ append_assoc (decimal m) (codes " ") (decimal k) in
    let leases : decimal l ≡ decimal m =
    sym (before_is (decimal l) (decimal n) (decimal_has_no_space l l_small)) ∙ ap before_space regrouped ∙ before_is (decimal m) (decimal k) (decimal_has_no_space m m_small) in
    let rests = backs (decimal l) (codes " " ++ decimal n) (decimal m) (codes " " ++ decimal k) (ap length leases) regrouped in
    let numbers = backs (codes " ") (decimal n) (codes " ") (decimal k) refl rests in
    (decimal_injective l m l_small m_small leases, decimal_injective n k n_small k_small numbers)
