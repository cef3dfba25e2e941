-- Copying and comparing lists of pairs.
use Rattle.std.proofs.Common.{◌≡◌, ◌↔◌, refl, arith, append_assoc, length-append, ℕ, ◌+◌, ◌<◌, List, [], ◌∷◌, ◌++◌, length, get_or, take, T, sym, ap, ◌∙◌}
use Rattle.std.proofs.lemmas.List.{append_cancel_left, take_more}
use Rattle.std.specs.declared.cmp.Ordering.{Ordering}
use Rattle.std.specs.FinMap as map
use Rattle.canvas_doc.proofs.Maps.{pairs_are}

module _ {K X : Type 0} where
  pub copied_more : (xs ys zs : List (K × X)) (i : ℕ) (x : K × X) (o : X) → i < length xs → x ≡ get_or xs i x → ys ≡ take i xs → o ≡ x.1 → zs ≡ ys ++ (x.0, o) ∷ [] → zs ≡ take (i + 1) xs
  copied_more xs ys zs i x o lt is so_far same new =
      new ∙ ap (λ (l : List (K × X)). l ++ (x.0, o) ∷ []) so_far ∙ ap (λ (v : X). take i xs ++ (x.0, v) ∷ []) same ∙ ap (λ (e : K × X). take i xs ++ e ∷ []) is ∙ sym (take_more xs i x lt)

  pub same_more : (xs ys : List (K × X)) (i : ℕ) (x y : K × X) → i < length xs → i < length ys → x ≡ get_or xs i x → y ≡ get_or ys i y → x ≡ y → take i xs ≡ take i ys → take (i + 1) xs ≡ take (i + 1) ys
  same_more xs ys i x y lt lt2 is is2 same so_far =
      take_more xs i x lt ∙ ap (λ (l : List (K × X)). l ++ get_or xs i x ∷ []) so_far ∙ ap (λ (e : K × X). take i ys ++ e ∷ []) (sym is ∙ same ∙ is2) ∙ sym (take_more ys i y lt2)

  -- two maps are one exactly where their pairs are
  pub maps_same : {R : K → K → Ordering} (es fs gs hs : List (K × X)) (m n : map.FinMap R X) → T (map.is_sorted R es) → T (map.is_sorted R fs) → map.from_sorted es ≡ m → map.from_sorted fs ≡ n → gs ≡ es → hs ≡ fs → (gs ≡ hs) ↔ (m ≡ n)
  maps_same es fs gs hs m n a b v w g h =
      (λ e. sym v ∙ ap map.from_sorted (sym g ∙ e ∙ h) ∙ w, λ e. g ∙ sym (pairs_are es m a v) ∙ ap map.entries e ∙ pairs_are fs n b w ∙ sym h)

-- two lists that were walked side by side
module _ {X : Type 0} where
  pub walk_more : (done rest others xs ys more other_more : List X) (x y : X) → done ++ rest ≡ xs → done ++ others ≡ ys → rest ≡ x ∷ more → others ≡ y ∷ other_more → x ≡ y → ((done ++ x ∷ []) ++ more ≡ xs) × ((done ++ x ∷ []) ++ other_more ≡ ys)
  walk_more done rest others xs ys more other_more x y a b r o same = (
    append_assoc done (x ∷ []) more ∙ ap (λ l. done ++ l) (sym r) ∙ a,
    append_assoc done (x ∷ []) other_more ∙ ap (λ z. done ++ z ∷ other_more) same ∙ ap (λ l. done ++ l) (sym o) ∙ b,
  )

  pub walk_differs : (done rest others xs ys more other_more : List X) (x y : X) → done ++ rest ≡ xs → done ++ others ≡ ys → rest ≡ x ∷ more → others ≡ y ∷ other_more → (x ≡ y → ⊥) → xs ≡ ys → ⊥
  walk_differs done rest others xs ys more other_more x y a b r o differ same =
      let tails : x ∷ more ≡ y ∷ other_more = sym r ∙ append_cancel_left done rest others (a ∙ same ∙ sym b) ∙ o in
      differ (let f : x ≡ y = cc in f)

  pub walk_ends : (done rest others xs ys more : List X) (x : X) → done ++ rest ≡ xs → done ++ others ≡ ys → rest ≡ x ∷ more → others ≡ [] → xs ≡ ys → ⊥
  walk_ends done rest others xs ys more x a b r o same = let f : x ∷ more ≡ [] = sym r ∙ append_cancel_left done rest others (a ∙ same ∙ sym b) ∙ o in cc

  pub walk_done : (done rest others xs ys : List X) → done ++ rest ≡ xs → done ++ others ≡ ys → rest ≡ [] → length xs ≡ length ys → xs ≡ ys
  walk_done done rest others xs ys a b r long =
      let e : length (done ++ rest) ≡ length done + length rest = length-append done rest in
      let f : length (done ++ others) ≡ length done + length others = length-append done others in
      let g : length rest ≡ 0 = ap length r in
      let h : length others ≡ 0 = omega (arith, ap length a, ap length b, e, f, g, long) in
      sym a ∙ ap (λ l. done ++ l) (r ∙ sym (none others h)) ∙ b
    where
      none : (l : List X) → length l ≡ 0 → l ≡ []
      none [] e = refl
      none (z ∷ l) e = absurd (omega arith)
