-- A list that is read member by member, from the front.
use Rattle.std.proofs.Common.{◌≡◌, ℕ, zero, suc, ◌+◌, ◌<◌, ◌&&◌, List, [], ◌∷◌, ◌++◌, length, get_or, take, Bool, true, false, Option, Some, None, refl, ap, ◌∙◌, arith}
use Rattle.std.proofs.lemmas.List.{take_more}
use Rattle.canvas_codec.specs.ReadList.{both, read_list}

and_assoc : (a b c : Bool) → (a && (b && c)) ≡ ((a && b) && c)
and_assoc true b c = refl
and_assoc false b c = refl

and_true : (a : Bool) → (a && true) ≡ a
and_true true = refl
and_true false = refl

-- what was read of the first ones, and one more
abbrev pub then_one : {X : Type 0} → Option (List X × Bool) → Option (X × Bool) → Option (List X × Bool)
then_one None s = None
then_one (Some r) None = None
then_one (Some r) (Some s) = Some (r.0 ++ s.0 ∷ [], r.1 && s.1)

both_then : {X : Type 0} (x : Option (X × Bool)) (r : Option (List X × Bool)) (s : Option (X × Bool)) → both x (then_one r s) ≡ then_one (both x r) s
both_then None r s = refl
both_then (Some x) None s = refl
both_then (Some x) (Some r) None = refl
both_then (Some x) (Some r) (Some s) = ap (λ b. Some (x.0 ∷ (r.0 ++ s.0 ∷ []), b)) (and_assoc x.1 r.1 s.1)

both_last : {X : Type 0} (x : Option (X × Bool)) → both x (Some ([], true)) ≡ then_one (Some ([], true)) x
both_last None = refl
both_last (Some x) = ap (λ b. Some (x.0 ∷ [], b)) (and_true x.1)

both_none : {X : Type 0} (x : Option (X × Bool)) → both x None ≡ None
both_none None = refl
both_none (Some x) = refl

pub read_list-append : {D X : Type 0} (f : D → Option (X × Bool)) (ds : List D) (d : D) → read_list f (ds ++ d ∷ []) ≡ then_one (read_list f ds) (f d)
read_list-append f [] d = both_last (f d)
read_list-append f (e ∷ ds) d = ap (both (f e)) (read_list-append f ds d) ∙ both_then (f e) (read_list f ds) (f d)

-- one more member, by its place
pub read_list-more : {D X : Type 0} (f : D → Option (X × Bool)) (ds : List D) (i : ℕ) (d : D) (xs : List X) (a : Bool) (y : X) (b : Bool)
    → i < length ds → read_list f (take i ds) ≡ Some (xs, a) → f (get_or ds i d) ≡ Some (y, b) → read_list f (take (i + 1) ds) ≡ Some (xs ++ y ∷ [], a && b)
read_list-more f ds i d xs a y b h before here =
    ap (read_list f) (take_more ds i d h) ∙ read_list-append f (take i ds) (get_or ds i d) ∙ rw (before, here)

-- a member that can't be read
pub read_list-none : {D X : Type 0} (f : D → Option (X × Bool)) (ds : List D) (i : ℕ) (d : D) → i < length ds → f (get_or ds i d) ≡ None → read_list f ds ≡ None
read_list-none f [] i d h e = absurd (omega arith)
read_list-none f (e₀ ∷ ds) zero d h e = ap (λ x. both x (read_list f ds)) e
read_list-none f (e₀ ∷ ds) (suc i) d h e = ap (both (f e₀)) (read_list-none f ds i d (omega arith) e) ∙ both_none (f e₀)
