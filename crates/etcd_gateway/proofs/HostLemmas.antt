-- URLs, part by part.
use Rattle.std.proofs.Common.{◌≡◌, ◌-◌, ℕ, true, List, ◌++◌, length, take, drop, codes, inr, sym, ap, ◌∙◌, subst}
use Rattle.std.specs.Cmp.Lexicographic.{pointwise, same_text}
use Rattle.std.specs.Prelude.{nat_eq}
use Rattle.std.proofs.lemmas.List.{take-append-drop}
use Rattle.etcd_gateway.specs.Hosts.{IsBlankBelow, IsBlankFrom, LiesBetweenBlanks, WithSlash}

-- what ends so is what stands before, and its end
pub ends : (text rest end : List ℕ) → pointwise nat_eq (drop (length text - length end) text) end ≡ true → rest ≡ take (length text - length end) text → text ≡ rest ++ end
ends text rest end same is =
    sym (take-append-drop (length text - length end) text)
    ∙ ap (λ (t : List ℕ). take (length text - length end) text ++ t) (same_text (drop (length text - length end) text) end (sym same))
    ∙ ap (λ (t : List ℕ). t ++ end) (sym is)

pub stands : (url text rest : List ℕ) (blanks : ℕ) → text ≡ codes "http://" ++ rest → text ≡ take (length text) (drop blanks url)
    → IsBlankBelow url blanks → IsBlankFrom (drop blanks url) (length text) → LiesBetweenBlanks blanks (codes "http://" ++ rest) url
stands url text rest blanks is middle front back =
    subst (λ (t : List ℕ). LiesBetweenBlanks blanks t url) is (record { front = front; middle = middle; back = back })
