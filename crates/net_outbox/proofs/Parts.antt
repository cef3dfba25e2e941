-- Bytes that wait in parts: the first, those that are shared, and those behind them.
use Rattle.std.proofs.Common.{◌≡◌, ℕ, ◌+◌, ◌-◌, ◌≤◌, ◌==◌, Bool, true, false, List, [], ◌++◌, length, take, drop, refl, sym, ap, subst, ◌∙◌, append_assoc, append-nil, length-append, take-append-drop, arith}
use Rattle.std.specs.Prelude.{Option}
use Rattle.std.proofs.lemmas.Bool.{eqb-true, false≢true}
use Rattle.std.proofs.lemmas.List.{drop-append-le, drop_all, length-drop, length-take-le, nil_from_length, take_all}
use Rattle.std.specs.Io.KnownBytes.{Appends}
use Rattle.std.proofs.KnownBytes.{Appends-nil, Appends-trans}
use Rattle.net_outbox.specs.Giving.{Gives}
use Rattle.net_outbox.proofs.Left.{front_and_rest, front_length}

-- ---- what is given

-- nothing was given yet
pub gives_nothing : (known : Option (List ℕ)) (bytes : List ℕ) → Gives known known 0 bytes bytes
gives_nothing known bytes = ([], refl, refl, Appends-nil known)

-- some, and then some more
pub gives_more : (a b c : Option (List ℕ)) (n m : ℕ) (old mid new : List ℕ) → Gives a b n old mid → Gives b c m mid new → Gives a c (n + m) old new
gives_more a b c n m old mid new first second = (
  first.0 ++ second.0,
  first.1 ∙ ap (λ l. first.0 ++ l) second.1 ∙ sym (append_assoc first.0 second.0 new),
  omega (arith, length-append first.0 second.0, first.2, second.2),
  Appends-trans a b c first.0 second.0 first.3 second.3,
)

-- as many are left as were not given
pub given_length : (a b : Option (List ℕ)) (n : ℕ) (old new : List ℕ) → Gives a b n old new → length old ≡ n + length new
given_length a b n old new gives = ap length gives.1 ∙ length-append gives.0 new ∙ ap (λ (k : ℕ). k + length new) gives.2

-- of the first part
pub gives_first : (a b : Option (List ℕ)) (bytes rest : List ℕ) (sent n : ℕ) → n ≤ length (drop sent bytes) → Appends a b (take n (drop sent bytes))
    → Gives a b n (drop sent bytes ++ rest) (drop (sent + n) bytes ++ rest)
gives_first a b bytes rest sent n fits took = (
  take n (drop sent bytes),
  ap (λ l. l ++ rest) (front_and_rest bytes sent n) ∙ append_assoc (take n (drop sent bytes)) (drop (sent + n) bytes) rest,
  front_length bytes sent n fits,
  took,
)

-- of those that are shared, where nothing is left of the first part
pub gives_shared : (a b : Option (List ℕ)) (bytes shared behind : List ℕ) (sent n : ℕ) → length bytes ≤ sent → n ≤ length shared → Appends a b (take n shared)
    → Gives a b n (drop sent bytes ++ (shared ++ behind)) (drop sent bytes ++ (drop n shared ++ behind))
gives_shared a b bytes shared behind sent n past fits took =
    let none = drop_all sent bytes past in
    subst (λ (l : List ℕ). Gives a b n (l ++ (shared ++ behind)) (l ++ (drop n shared ++ behind))) (sym none) (
      take n shared,
      ap (λ l. l ++ behind) (sym (take-append-drop n shared)) ∙ append_assoc (take n shared) (drop n shared) behind,
      length-take-le n shared fits,
      took,
    )

-- where those that were shared are gone, those behind them are the first
pub behind_first : (bytes shared behind : List ℕ) (sent : ℕ) → length bytes ≤ sent → shared ≡ [] → drop sent bytes ++ (shared ++ behind) ≡ drop 0 behind ++ (shared ++ [])
behind_first bytes shared behind sent past none =
    subst (λ (l : List ℕ). l ++ (shared ++ behind) ≡ drop 0 behind ++ (shared ++ [])) (sym (drop_all sent bytes past))
    (subst (λ (l : List ℕ). l ++ behind ≡ behind ++ (l ++ [])) (sym none) (sym (append-nil behind)))

-- ---- what is added

-- behind the first part, where there is no other
pub pushed_first : (bytes shared behind more : List ℕ) (sent : ℕ) → sent ≤ length bytes → shared ≡ [] → behind ≡ []
    → drop sent (bytes ++ more) ++ (shared ++ behind) ≡ (drop sent bytes ++ (shared ++ behind)) ++ more
pushed_first bytes shared behind more sent within none empty =
    let rest : shared ++ behind ≡ [] = ap (λ l. l ++ behind) none ∙ empty in
    ap (λ l. drop sent (bytes ++ more) ++ l) rest ∙ append-nil (drop sent (bytes ++ more)) ∙ drop-append-le sent bytes more within
    ∙ ap (λ l. l ++ more) (sym (append-nil (drop sent bytes)) ∙ ap (λ l. drop sent bytes ++ l) (sym rest))

-- behind those that are shared
pub pushed_behind : (first shared behind more : List ℕ) → first ++ (shared ++ (behind ++ more)) ≡ (first ++ (shared ++ behind)) ++ more
pushed_behind first shared behind more = ap (λ l. first ++ l) (sym (append_assoc shared behind more)) ∙ sym (append_assoc first (shared ++ behind) more)

-- all that waited and more as the first part, and then others that are shared
pub shared_behind : (first shared behind own more bytes : List ℕ) → bytes ≡ (((first ++ shared) ++ behind) ++ own)
    → drop 0 bytes ++ (more ++ []) ≡ (first ++ (shared ++ behind)) ++ (own ++ more)
shared_behind first shared behind own more bytes are =
    ap (λ l. bytes ++ l) (append-nil more) ∙ ap (λ l. l ++ more) (are ∙ ap (λ l. l ++ own) (append_assoc first shared behind)) ∙ append_assoc (first ++ (shared ++ behind)) own more

-- a list whose test for emptiness holds, and one whose test fails
pub is_nil : (xs : List ℕ) (b : Bool) → b ≡ (length xs == 0) → b ≡ true → xs ≡ []
is_nil xs b is holds = nil_from_length xs (eqb-true (length xs) 0 (sym is ∙ holds))

pub not_nil : (xs : List ℕ) (b : Bool) → b ≡ (length xs == 0) → b ≡ false → xs ≡ [] → ⊥
not_nil xs b is fails none = false≢true (sym fails ∙ is ∙ ap (λ (l : List ℕ). length l == 0) none)

-- what stands from a place on, as a slice
pub from_place : (bytes lent : List ℕ) (sent : ℕ) → lent ≡ bytes → take (length lent - sent) (drop sent lent) ≡ drop sent bytes
from_place bytes lent sent is =
    subst (λ (l : List ℕ). take (length l - sent) (drop sent l) ≡ drop sent bytes) (sym is) (take_all (length bytes - sent) (drop sent bytes) (omega (arith, length-drop sent bytes)))
