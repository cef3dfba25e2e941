-- What is read of a tree, part by part.
use Rattle.std.proofs.Common.{◌≡◌, ℕ, zero, suc, ◌+◌, ◌<◌, List, [], ◌∷◌, ◌++◌, length, take, get_or, refl, sym, ap, ◌∙◌, arith, Option, Some, None}
use Rattle.std.proofs.lemmas.List.{take_more}
use Rattle.serde_json.specs.Data.{Data}
use Rattle.serde_json.specs.View.{view, items_view}
use Rattle.serde_json.specs.declared.value.Value.{Value as Json}
use Rattle.etcd_gateway.specs.Answers.{read_both, read_each_item}
use Rattle.etcd_gateway.specs.Faults.{IsNothingRead}
use Rattle.etcd_gateway.specs.declared.error.GatewayError.{GatewayError}
use Rattle.etcd_gateway.specs.declared.error.GatewayError.TheVariants.{NotHttp, TooLarge, NotJson, NotAnAnswer, Memory}

-- ---- lists

-- each of some trees, read in turn
abbrev pub read_each : {A : Type 0} → (Json → Option A) → List Json → Option (List A)
read_each f [] = Some []
read_each f (v ∷ vs) = read_both (λ a rest. a ∷ rest) (f v) (read_each f vs)

pub each_view : {A : Type 0} (f : Data → Option A) (vs : List Json) → read_each_item f (items_view vs) ≡ read_each (λ v. f (view v)) vs
each_view f [] = refl
each_view f (v ∷ vs) = ap (read_both (λ a rest. a ∷ rest) (f (view v))) (each_view f vs)

-- what was read of the first ones, and one more
abbrev then_one : {A : Type 0} → Option (List A) → Option A → Option (List A)
then_one None o = None
then_one (Some r) None = None
then_one (Some r) (Some a) = Some (r ++ a ∷ [])

front_then : {A : Type 0} (x : Option A) (r : Option (List A)) (o : Option A) → read_both (λ a rest. a ∷ rest) x (then_one r o) ≡ then_one (read_both (λ a rest. a ∷ rest) x r) o
front_then None r o = refl
front_then (Some x) None o = refl
front_then (Some x) (Some r) None = refl
front_then (Some x) (Some r) (Some o) = refl

front_last : {A : Type 0} (x : Option A) → read_both (λ a rest. a ∷ rest) x (Some []) ≡ then_one (Some []) x
front_last None = refl
front_last (Some x) = refl

front_none : {A : Type 0} (x : Option A) → read_both {B = List A} (λ a rest. a ∷ rest) x None ≡ None
front_none None = refl
front_none (Some x) = refl

read_each-append : {A : Type 0} (f : Json → Option A) (vs : List Json) (v : Json) → read_each f (vs ++ v ∷ []) ≡ then_one (read_each f vs) (f v)
read_each-append f [] v = front_last (f v)
read_each-append f (w ∷ vs) v = ap (read_both (λ a rest. a ∷ rest) (f w)) (read_each-append f vs v) ∙ front_then (f w) (read_each f vs) (f v)

-- one more member, by its place
pub read_each-more : {A : Type 0} (f : Json → Option A) (vs : List Json) (i : ℕ) (v : Json) (found : List A) (a : A)
    → i < length vs → read_each f (take i vs) ≡ Some found → f (get_or vs i v) ≡ Some a → read_each f (take (i + 1) vs) ≡ Some (found ++ a ∷ [])
read_each-more f vs i v found a less before here =
    ap (read_each f) (take_more vs i v less) ∙ read_each-append f (take i vs) (get_or vs i v) ∙ rw (before, here) refl

-- a member that can't be read
pub read_each-none : {A : Type 0} (f : Json → Option A) (vs : List Json) (i : ℕ) (v : Json) → i < length vs → f (get_or vs i v) ≡ None → read_each f vs ≡ None
read_each-none f [] i v less e = absurd (omega arith)
read_each-none f (w ∷ vs) zero v less e = ap (λ x. read_both (λ a rest. a ∷ rest) x (read_each f vs)) e
read_each-none f (w ∷ vs) (suc i) v less e = ap (read_both (λ a rest. a ∷ rest) (f w)) (read_each-none f vs i v (omega arith) e) ∙ front_none (f w)

-- a member that isn't read, where all were asked for
pub unread_each : {A : Type 0} (f : Data → Option A) (vs : List Json) (i : ℕ) (v : Json) (e : GatewayError) → i < length vs → v ≡ get_or vs i v
    → IsNothingRead (f (view v)) e → IsNothingRead (read_each_item f (items_view vs)) e
unread_each f vs i v NotAnAnswer less is h = each_view f vs ∙ read_each-none (λ w. f (view w)) vs i v less (ap (λ w. f (view w)) (sym is) ∙ h)
unread_each f vs i v Memory less is h = tt
unread_each f vs i v NotHttp less is h = h
unread_each f vs i v TooLarge less is h = h
unread_each f vs i v NotJson less is h = h
