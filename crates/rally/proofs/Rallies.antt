-- What each client of a rally shows, and how a fault is told.
use Rattle.std.proofs.Common.{◌≡◌, ◌⊎◌, ℕ, suc, ◌+◌, List, [], ◌∷◌, ◌++◌, length, Option, refl, ap, sym, ◌∙◌, subst, arith, length-append, inl, inr}
use Rattle.std.specs.Prelude.{◌↔◌, All, Bool, IsTrue, Some, true, slice_get}
use Rattle.std.specs.Io.KnownBytes.{Appends}
use Rattle.canvas_doc.proofs.Standing.{some_is}
use Rattle.std.proofs.lemmas.List.Elements.{All-cons, All-head, All-nil, All-tail}
use Rattle.canvas_model.specs.Client.{Client}
use Rattle.canvas_model.specs.Local.{EditRequest}
use Rattle.canvas_daemon.specs.declared.fault.DaemonFault.{DaemonFault}
use Rattle.canvas_daemon.specs.declared.fault.DaemonFault.TheVariants.{Usage, BadLine, Memory, Device, Damaged, TooLarge}
use Rattle.canvas_daemon.specs.Faults as daemon
use Rattle.canvas_daemon.specs.Faults.{IsDaemonStatus, daemon_fault_line}
use Rattle.canvas_threads.specs.Worked.{Beside}
use Rattle.rally.specs.Faults.{IsRallyEnd, line_of}
use Rattle.rally.specs.Pages.{AsksForPage, IsSetOf, first_of_client}
use Rattle.rally.specs.Rallied.{AgreeWith, AreEqual}

-- what holds of each second element, where all first elements are one
pub all_shown : {A B : Type 0} (P : A → B → Type 0) (a : A) (xs : List A) (ys : List B) → All (λ x. x ≡ a) xs → Beside P xs ys → All (P a) ys
all_shown P a [] [] each p = All-nil (P a)
all_shown P a [] (y ∷ ys) each p = absurd p
all_shown P a (x ∷ xs) [] each p = absurd p
all_shown {A = A} P a (x ∷ xs) (y ∷ ys) each p =
    All-cons (P a) y ys (subst (λ (z : A). P z y) (All-head (λ x. x ≡ a) x xs each) p.0) (all_shown P a xs ys (All-tail (λ x. x ≡ a) x xs each) p.1)

pub beside_length : {A B : Type 0} (P : A → B → Type 0) (xs : List A) (ys : List B) → Beside P xs ys → length ys ≡ length xs
beside_length P [] [] p = refl
beside_length P [] (y ∷ ys) p = absurd p
beside_length P (x ∷ xs) [] p = absurd p
beside_length P (x ∷ xs) (y ∷ ys) p = let rest = beside_length P xs ys p.1 in omega (arith, rest)

pub all_more : {X : Type 0} (P : X → Type 0) (xs : List X) (x : X) → All P xs → P x → All P (xs ++ x ∷ [])
all_more P [] x all is = All-cons P x [] is (All-nil P)
all_more P (y ∷ xs) x all is = All-cons P y (xs ++ x ∷ []) (All-head P y xs all) (all_more P xs x (All-tail P y xs all) is)

-- one set more is asked for
pub asks_more : (c n : ℕ) (requests more : List EditRequest) (request : EditRequest) → more ≡ requests ++ request ∷ [] → IsSetOf (first_of_client c) request → AsksForPage c n requests → AsksForPage c (n + 1) more
asks_more c n [] more request is set asks = absurd asks
asks_more c n (first ∷ rest) more request is set asks =
    subst (AsksForPage c (n + 1)) (sym is)
    (asks.0, (let count = length-append rest (request ∷ []) in let before = asks.1 in omega (arith, count, before)), all_more (IsSetOf (first_of_client c)) rest request asks.2 set)

-- the line of a fault that isn't the usage is that of `canvasd`
same_line : (fault : DaemonFault) → (fault ≡ Usage → ⊥) → daemon_fault_line fault ≡ line_of fault
same_line Usage other = absurd (other refl)
same_line (BadLine n) other = refl
same_line Memory other = refl
same_line Device other = refl
same_line (Damaged segment offset) other = refl
same_line TooLarge other = refl

pub told_so : (fault : DaemonFault) (status : ℕ) (faults told : Option (List ℕ)) → (fault ≡ Usage → ⊥) → daemon.IsDaemonEnd fault status faults told → IsRallyEnd fault status faults told
told_so fault status faults told other (inl is) = inl (is.0, subst (Appends faults told) (same_line fault other) is.1)
told_so fault status faults told other (inr is) = inr is

-- all agree with the first, where all agree with this one, which is it
pub equal_to_first : (clients : List Client) (first : Client) (r : Bool) → Some first ≡ slice_get clients 0 → (IsTrue r ↔ All (AgreeWith first) clients) → IsTrue r ↔ AreEqual clients
equal_to_first clients first r at says = (
  λ t f there. subst (λ (x : Client). All (AgreeWith x) clients) (some_is first f (at ∙ there)) (says.0 t),
  λ all. says.1 (all first (sym at)),
)
