-- Lists that are copied and compared element by element, from the front.
use Rattle.std.proofs.Common.{◌≡◌, ℕ, ◌+◌, ◌<◌, List, [], ◌∷◌, ◌++◌, length, get_or, take, sym, ap, ◌∙◌}
use Rattle.std.proofs.lemmas.List.{take_more}

module _ {X : Type 0} where
  -- one more element was copied
  pub copied_more : (xs ys zs : List X) (i : ℕ) (x o : X) → i < length xs → x ≡ get_or xs i x → ys ≡ take i xs → o ≡ x → zs ≡ ys ++ o ∷ [] → zs ≡ take (i + 1) xs
  copied_more xs ys zs i x o lt is so_far same new =
      new ∙ ap (λ (l : List X). l ++ o ∷ []) so_far ∙ ap (λ (e : X). take i xs ++ e ∷ []) (same ∙ is) ∙ sym (take_more xs i x lt)

  -- one more element is the same
  pub same_more : (xs ys : List X) (i : ℕ) (x y : X) → i < length xs → i < length ys → x ≡ get_or xs i x → y ≡ get_or ys i y → x ≡ y → take i xs ≡ take i ys → take (i + 1) xs ≡ take (i + 1) ys
  same_more xs ys i x y lt lt2 is is2 same so_far =
      take_more xs i x lt ∙ ap (λ (l : List X). l ++ get_or xs i x ∷ []) so_far ∙ ap (λ (e : X). take i ys ++ e ∷ []) (sym is ∙ same ∙ is2) ∙ sym (take_more ys i y lt2)
