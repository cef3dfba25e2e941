-- Names and their numbers.
use Rattle.std.proofs.Common.{◌≡◌, inl, inr, Bool, true, false, cond, ◌||◌, ℕ, zero, suc, ◌+◌, List, [], ◌∷◌, ◌++◌, length, map, slice_get, get_or, position, Some, refl, sym, ap, subst, ◌∙◌, true≢false, add-one, Vec, Global}
use Rattle.std.specs.Prelude.{bytes_eq}
use Rattle.std.specs.List.{list_any}
use Rattle.std.specs.Option.{option_map}
use Rattle.std.proofs.lemmas.List.{map-append}
use Rattle.std.proofs.lemmas.List.Folds.{list_any_at}
use Rattle.std.proofs.lemmas.List.Quantifiers.{position-Some}
use Rattle.std.proofs.lemmas.Option.{slice_get-map, slice_get-get_or, slice_get_within, get_or_from_slice_get}
use Rattle.std.proofs.lemmas.Slice.Eq.{bytes_eq-Decides}
use Rattle.canvas_model.specs.Numbered.{nth}
use Rattle.canvas_model.proofs.Lists.{get-append_inv}
use Rattle.canvas_script.specs.Names.{IsNodeName, IsNumber, AreNames, is_used, names_after_use}

-- the name that is stored so
abbrev pub name_of : Vec ℕ Global → List ℕ
name_of v = v.items

-- keys, and the names that they are
module _ {K : Type 0} (f : K → List ℕ) where
  pub any_seen : (name : List ℕ) (ks : List K) → list_any (λ k. bytes_eq name (f k)) ks ≡ is_used (map f ks) name
  any_seen name [] = refl
  any_seen name (k ∷ ks) = ap (λ b. bytes_eq name (f k) || b) (any_seen name ks)

  pub seen_at : (ks : List K) (i : ℕ) → option_map f (slice_get ks i) ≡ nth (map f ks) (i + 1)
  seen_at ks i = sym (slice_get-map f ks i) ∙ ap (nth (map f ks)) (sym (add-one i))

  pub number_at : (name : List ℕ) (ks : List K) (i : ℕ) → position (λ k. bytes_eq name (f k)) ks ≡ Some i → IsNumber (map f ks) name (i + 1)
  number_at name [] i e = absurd (let h = e in cc)
  number_at name (k ∷ ks) i e =
      let h = position-Some (λ k. bytes_eq name (f k)) (k ∷ ks) i k e in
      let found : slice_get (k ∷ ks) i ≡ Some (get_or (k ∷ ks) i k) = slice_get-get_or (k ∷ ks) i k h.0 in
      sym (seen_at (k ∷ ks) i) ∙ ap (option_map f) found ∙ ap Some (sym ((bytes_eq-Decides name (f (get_or (k ∷ ks) i k))).0 h.1))

  inserted : (b c : Bool) (ks : List K) (k : K) → b ≡ c → map f (cond b ks (ks ++ k ∷ [])) ≡ cond c (map f ks) (map f ks ++ f k ∷ [])
  inserted true true ks k e = refl
  inserted true false ks k e = absurd (true≢false e)
  inserted false true ks k e = absurd (true≢false (sym e))
  inserted false false ks k e = map-append f ks (k ∷ [])

  -- a key that was inserted is a name that was used
  pub used_seen : (ks : List K) (k : K) → map f (cond (list_any (λ other. bytes_eq (f k) (f other)) ks) ks (ks ++ k ∷ [])) ≡ names_after_use (map f ks) (f k)
  used_seen ks k = inserted _ _ ks k (any_seen (f k) ks)

used_at : (names : List (List ℕ)) (name : List ℕ) (i : ℕ) → slice_get names i ≡ Some name → is_used names name ≡ true
used_at names name i e =
    list_any_at (bytes_eq name) names i name (slice_get_within names i name e) ((bytes_eq-Decides name (get_or names i name)).1 (sym (get_or_from_slice_get names i name name e)))

-- the names after a use are those before it, where the name was used
pub used_again : (names : List (List ℕ)) (name : List ℕ) → is_used names name ≡ true → names ≡ names_after_use names name
used_again names name e = sym (ap (λ b. cond b names (names ++ name ∷ [])) e)

pub used_first : (names : List (List ℕ)) (name : List ℕ) → is_used names name ≡ false → names_after_use names name ≡ names ++ name ∷ []
used_first names name e = ap (λ b. cond b names (names ++ name ∷ [])) e

last_there : (names : List (List ℕ)) (name : List ℕ) → slice_get (names ++ name ∷ []) (length names) ≡ Some name
last_there [] name = refl
last_there (n ∷ names) name = last_there names name

-- the number of a new name is one more than there were
pub number_new : (names : List (List ℕ)) (name : List ℕ) → is_used names name ≡ false → IsNumber (names_after_use names name) name (length names + 1)
number_new names name e =
    ap (λ after. nth after (length names + 1)) (used_first names name e)
    ∙ ap (nth (names ++ name ∷ [])) (add-one (length names))
    ∙ last_there names name

module _ (names : List (List ℕ)) (name : List ℕ) (are : AreNames names) (is : IsNodeName name) (new : is_used names name ≡ false) where
  each_more : (k : ℕ) (n : List ℕ) → IsNumber (names ++ name ∷ []) n k → IsNodeName n
  each_more zero n e = absurd (let h = e in cc)
  each_more (suc i) n e = elim (get-append_inv names name i n e) [ inl old ↦ are.each (suc i) n old | inr last ↦ subst IsNodeName last.1 is ]

  not_both : (i k : ℕ) (n : List ℕ) → slice_get names i ≡ Some n → name ≡ n → ⊥
  not_both i k n there same = true≢false (sym (used_at names name i (there ∙ ap Some (sym same))) ∙ new)

  once_more : (i k : ℕ) (n : List ℕ) → IsNumber (names ++ name ∷ []) n i → IsNumber (names ++ name ∷ []) n k → i ≡ k
  once_more zero k n at_i at_k = absurd (let h = at_i in cc)
  once_more (suc i) zero n at_i at_k = absurd (let h = at_k in cc)
  once_more (suc i) (suc k) n at_i at_k = elim (get-append_inv names name i n at_i) [
    | inl there_i ↦ elim (get-append_inv names name k n at_k) [
      | inl there_k ↦ are.once (suc i) (suc k) n there_i there_k
      | inr last_k ↦ absurd (not_both i k n there_i last_k.1)
    ]
    | inr last_i ↦ elim (get-append_inv names name k n at_k) [
      | inl there_k ↦ absurd (not_both k i n there_k last_i.1)
      | inr last_k ↦ ap suc (last_i.0 ∙ sym last_k.0)
    ]
  ]

  more_names : AreNames (names ++ name ∷ [])
  more_names = record { each = each_more; once = once_more }

  pub are_used : AreNames (names_after_use names name)
  are_used = subst AreNames (sym (used_first names name new)) more_names
