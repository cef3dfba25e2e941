-- Files in memory, one of which is found by its name and changed.
use Rattle.std.proofs.Common.{◌≡◌, ◌<◌, ◌≤◌, ◌+◌, inl, inr, ℕ, zero, suc, Bool, true, false, List, [], ◌∷◌, ◌++◌, length, get_or, set, take, map, refl, sym, ◌∙◌, ap, subst, arith}
use Rattle.std.specs.Prelude.{nat_eq, if◌then◌else◌}
use Rattle.std.specs.Cmp.Lexicographic.{other_text, pointwise, same_text}
use Rattle.std.specs.List.{AllByRecursion}
use Rattle.std.proofs.lemmas.List.{take_all}
use Rattle.std.proofs.lemmas.Bool.{cases_Bool, cases_lt, true≢false}
use Rattle.canvas_folder.specs.Names.{same}
use Rattle.canvas_folder.specs.Files.{File, has_file, bytes_at, changed, made_in, fresh, remade, as_sure}
use Rattle.canvas_folder.specs.Sound.{same_is, same_self}
use Rattle.memory_folder.specs.Held.{file_of, held_files}
use Rattle.memory_folder.specs.declared.held.Held.{Held}

-- none of the first so many has this name
abbrev pub Misses : List Held → List ℕ → ℕ → Type 0
Misses fs N i = (k : ℕ) (d : Held) → k < i → same (get_or fs k d).name.items N ≡ false

pub same_true : (a b : List ℕ) → true ≡ pointwise nat_eq a b → same a b ≡ true
same_true a b is = ap (same a) (sym (same_text a b is)) ∙ same_self a

pub same_false : (a b : List ℕ) → false ≡ pointwise nat_eq a b → same a b ≡ false
same_false a b is = elim (cases_Bool (same a b)) [
  | inl e ↦ absurd (other_text a b is (same_is a b e))
  | inr e ↦ e
]

pub misses_more : (fs : List Held) (N : List ℕ) (i : ℕ) (x : Held) → i < length fs → x ≡ get_or fs i x → Misses fs N i → same x.name.items N ≡ false → Misses fs N (i + 1)
misses_more fs N i x less is misses here k d below = elim (cases_lt k i) [
  | inl l ↦ misses k d l
  | inr g ↦ (
      let e : k ≡ i = omega (arith, below, g) in
      let at : get_or fs k d ≡ x = ap (λ (j : ℕ). get_or fs j d) e ∙ default fs i d x less ∙ sym is in
      ap (λ (h : Held). same h.name.items N) at ∙ here)
]
  where
    default : (fs : List Held) (i : ℕ) (d x : Held) → i < length fs → get_or fs i d ≡ get_or fs i x
    default [] i d x less = absurd (omega arith)
    default (f ∷ fs) zero d x less = refl
    default (f ∷ fs) (suc i) d x less = default fs i d x (omega arith)

misses_on : (f : Held) (fs : List Held) (N : List ℕ) (i : ℕ) → Misses (f ∷ fs) N (suc i) → Misses fs N i
misses_on f fs N i misses k d less = misses (suc k) d (omega arith)

stands_on : (N : List ℕ) (f : Held) (rest : Bool) → same f.name.items N ≡ false → (if same f.name.items N then f.there else rest) ≡ rest
stands_on N f rest apart = ap (λ (b : Bool). if b then f.there else rest) apart

pub stands_at : (N : List ℕ) (fs : List Held) (i : ℕ) (d : Held) → i < length fs → Misses fs N i → same (get_or fs i d).name.items N ≡ true → has_file N (held_files fs) ≡ (get_or fs i d).there
stands_at N [] i d less misses found = absurd (omega arith)
stands_at N (f ∷ fs) zero d less misses found = ap (λ (b : Bool). if b then f.there else has_file N (held_files fs)) found
stands_at N (f ∷ fs) (suc i) d less misses found = stands_on N f (has_file N (held_files fs)) (misses 0 f (omega arith)) ∙ stands_at N fs i d (omega arith) (misses_on f fs N i misses) found

pub bytes_are_at : (N : List ℕ) (fs : List Held) (i : ℕ) (d : Held) → i < length fs → Misses fs N i → same (get_or fs i d).name.items N ≡ true → bytes_at N (held_files fs) ≡ (get_or fs i d).bytes.items
bytes_are_at N [] i d less misses found = absurd (omega arith)
bytes_are_at N (f ∷ fs) zero d less misses found = ap (λ (b : Bool). if b then f.bytes.items else bytes_at N (held_files fs)) found
bytes_are_at N (f ∷ fs) (suc i) d less misses found =
    ap (λ (b : Bool). if b then f.bytes.items else bytes_at N (held_files fs)) (misses 0 f (omega arith)) ∙ bytes_are_at N fs i d (omega arith) (misses_on f fs N i misses) found

none_stands : (N : List ℕ) (fs : List Held) → Misses fs N (length fs) → has_file N (held_files fs) ≡ false
none_stands N [] misses = refl
none_stands N (f ∷ fs) misses = stands_on N f (has_file N (held_files fs)) (misses 0 f (omega arith)) ∙ none_stands N fs (misses_on f fs N (length fs) misses)

pub stands_within : (N : List ℕ) (fs : List Held) (i : ℕ) → has_file N (held_files fs) ≡ true → i ≤ length fs → Misses fs N i → i < length fs
stands_within N fs i stood within misses = elim (cases_lt i (length fs)) [
  | inl l ↦ l
  | inr g ↦ (let e : i ≡ length fs = omega (arith, within, g) in absurd (true≢false (sym stood ∙ none_stands N fs (subst (Misses fs N) e misses))))
]

pub changed_set : (N : List ℕ) (g : File → File) (fs : List Held) (i : ℕ) (x y : Held) → i < length fs → x ≡ get_or fs i x → Misses fs N i → same x.name.items N ≡ true → file_of y ≡ g (file_of x)
    → held_files (set fs i y) ≡ changed N g (held_files fs)
changed_set N g [] i x y less is misses found change = absurd (omega arith)
changed_set N g (f ∷ fs) zero x y less is misses found change =
    ap (λ (v : File). v ∷ held_files fs) (change ∙ ap (λ (h : Held). g (file_of h)) is)
    ∙ sym (ap (λ (b : Bool). if b then g (file_of f) ∷ held_files fs else file_of f ∷ changed N g (held_files fs)) (ap (λ (h : Held). same h.name.items N) (sym is) ∙ found))
changed_set N g (f ∷ fs) (suc i) x y less is misses found change =
    ap (λ (l : List File). file_of f ∷ l) (changed_set N g fs i x y (omega arith) is (misses_on f fs N i misses) found change)
    ∙ sym (ap (λ (b : Bool). if b then g (file_of f) ∷ held_files fs else file_of f ∷ changed N g (held_files fs)) (misses 0 f (omega arith)))

pub made_set : (N : List ℕ) (fs : List Held) (i : ℕ) (x y : Held) → i < length fs → x ≡ get_or fs i x → Misses fs N i → same x.name.items N ≡ true → file_of y ≡ remade (file_of x)
    → held_files (set fs i y) ≡ made_in N (held_files fs)
made_set N [] i x y less is misses found change = absurd (omega arith)
made_set N (f ∷ fs) zero x y less is misses found change =
    ap (λ (v : File). v ∷ held_files fs) (change ∙ ap (λ (h : Held). remade (file_of h)) is)
    ∙ sym (ap (λ (b : Bool). if b then remade (file_of f) ∷ held_files fs else file_of f ∷ made_in N (held_files fs)) (ap (λ (h : Held). same h.name.items N) (sym is) ∙ found))
made_set N (f ∷ fs) (suc i) x y less is misses found change =
    ap (λ (l : List File). file_of f ∷ l) (made_set N fs i x y (omega arith) is (misses_on f fs N i misses) found change)
    ∙ sym (ap (λ (b : Bool). if b then remade (file_of f) ∷ held_files fs else file_of f ∷ made_in N (held_files fs)) (misses 0 f (omega arith)))

pub made_new : (N : List ℕ) (fs : List Held) (y : Held) → Misses fs N (length fs) → file_of y ≡ fresh N → held_files (fs ++ y ∷ []) ≡ made_in N (held_files fs)
made_new N [] y misses is = ap (λ (v : File). v ∷ []) is
made_new N (f ∷ fs) y misses is =
    ap (λ (l : List File). file_of f ∷ l) (made_new N fs y (misses_on f fs N (length fs) misses) is)
    ∙ sym (ap (λ (b : Bool). if b then remade (file_of f) ∷ held_files fs else file_of f ∷ made_in N (held_files fs)) (misses 0 f (omega arith)))

pub same_set : (fs : List Held) (i : ℕ) (x y : Held) → i < length fs → x ≡ get_or fs i x → file_of y ≡ file_of x → held_files (set fs i y) ≡ held_files fs
same_set [] i x y less is change = absurd (omega arith)
same_set (f ∷ fs) zero x y less is change = ap (λ (v : File). v ∷ held_files fs) (change ∙ ap file_of is)
same_set (f ∷ fs) (suc i) x y less is change = ap (λ (l : List File). file_of f ∷ l) (same_set fs i x y (omega arith) is change)

-- CERTAIN NAMES

abbrev pub AllSure : List Held → Type 0
AllSure = AllByRecursion (λ h. h.sure ≡ true)

pub sure_set : (fs : List Held) (i : ℕ) (x y : Held) → i < length fs → x ≡ get_or fs i x → as_sure (file_of y) ≡ as_sure (file_of x) → map as_sure (held_files (set fs i y)) ≡ map as_sure (held_files fs)
sure_set [] i x y less is change = absurd (omega arith)
sure_set (f ∷ fs) zero x y less is change = ap (λ (v : File). v ∷ map as_sure (held_files fs)) (change ∙ ap (λ (h : Held). as_sure (file_of h)) is)
sure_set (f ∷ fs) (suc i) x y less is change = ap (λ (l : List File). as_sure (file_of f) ∷ l) (sure_set fs i x y (omega arith) is change)

sure_front : (fs : List Held) (i : ℕ) (y : Held) → i < length fs → y.sure ≡ true → AllSure (take i fs) → AllSure (take (suc i) (set fs i y))
sure_front [] i y less one all = absurd (omega arith)
sure_front (f ∷ fs) zero y less one all = (one, tt)
sure_front (f ∷ fs) (suc i) y less one all = (all.0, sure_front fs i y (omega arith) one all.1)

pub sure_more : (fs : List Held) (i : ℕ) (y : Held) → i < length fs → y.sure ≡ true → AllSure (take i fs) → AllSure (take (i + 1) (set fs i y))
sure_more fs i y less one all = let e : suc i ≡ i + 1 = omega arith in subst (λ (k : ℕ). AllSure (take k (set fs i y))) e (sure_front fs i y less one all)

sure_same : (fs : List Held) → AllSure fs → held_files fs ≡ map as_sure (held_files fs)
sure_same [] all = refl
sure_same (f ∷ fs) all =
    ap (λ (b : Bool). let v : File = record (file_of f) { sure = b } in v ∷ held_files fs) all.0 ∙ ap (λ (l : List File). as_sure (file_of f) ∷ l) (sure_same fs all.1)

pub sure_done : (fs : List Held) (i : ℕ) → length fs ≤ i → AllSure (take i fs) → held_files fs ≡ map as_sure (held_files fs)
sure_done fs i past all = sure_same fs (subst AllSure (take_all i fs past) all)
