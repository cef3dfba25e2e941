-- Text that grows at its end.
use Rattle.std.proofs.Common.{◌≡◌, ℕ, suc, ◌+◌, ◌<◌, List, [], ◌∷◌, ◌++◌, length, get_or, take, refl, sym, ◌∙◌, ap, append_assoc, add-one}
use Rattle.std.specs.Prelude.{None, Some, codes}
use Rattle.std.specs.List.{flat_map}
use Rattle.std.proofs.lemmas.Grind.{flat_map-append}
use Rattle.std.proofs.lemmas.List.{take_more, append-nil}
use Rattle.canvas_model.specs.Document.{Name, Pos}
use Rattle.canvas_model.specs.Text.{id_text, kind_word}
use Rattle.canvas_codec.specs.Text.{json_text}
use Rattle.canvas_model.specs.Value.{Value}
use Rattle.canvas_tree.specs.Shapes.{Label, Branch, forest_of}
use Rattle.canvas_tree.specs.Texts.{blanks, pos_text, head_text, head_line, prop_line, label_text, forest_text, tree_text}

pub joined : (old s x out new t : List ℕ) → out ≡ old ++ s → new ≡ out ++ x → t ≡ s ++ x → new ≡ old ++ t
joined old s x out new t e f g = f ∙ ap (λ v. v ++ x) e ∙ append_assoc old s x ∙ ap (λ v. old ++ v) (sym g)

-- one more line
pub lines_more : {X : Type 0} (f : X → List ℕ) (xs : List X) (i : ℕ) (x : X) (old out line new : List ℕ) → i < length xs → x ≡ get_or xs i x → out ≡ old ++ flat_map f (take i xs) → line ≡ f x → new ≡ out ++ line → new ≡ old ++ flat_map f (take (i + 1) xs)
lines_more f xs i x old out line new h w so_far is e =
    let last : flat_map f (get_or xs i x ∷ []) ≡ line = append-nil (f (get_or xs i x)) ∙ ap f (sym w) ∙ sym is in
    let all : flat_map f (take (i + 1) xs) ≡ flat_map f (take i xs) ++ line = ap (flat_map f) (take_more xs i x h) ∙ flat_map-append f (take i xs) (get_or xs i x ∷ []) ∙ ap (λ v. flat_map f (take i xs) ++ v) last in
    joined old (flat_map f (take i xs)) line out new _ so_far e all

pub bare_parts : (a k : List ℕ) → a ++ (32 ∷ (k ++ (10 ∷ []))) ≡ a ++ codes " " ++ k ++ [] ++ 10 ∷ []
bare_parts a k = simp append_assoc refl

pub placed_parts : (a k p : List ℕ) → a ++ (32 ∷ (k ++ (32 ∷ (p ++ (10 ∷ []))))) ≡ a ++ codes " " ++ k ++ (codes " " ++ p) ++ 10 ∷ []
placed_parts a k p = simp append_assoc refl

prop_parts : (b n v : List ℕ) → b ++ (46 ∷ (n ++ (32 ∷ (v ++ (10 ∷ []))))) ≡ b ++ codes "." ++ n ++ codes " " ++ v ++ 10 ∷ []
prop_parts b n v = simp append_assoc refl

-- an object that has a position
pub placed_head : (l : Label) (pos text : Pos) → l.pos ≡ Some pos → text ≡ pos → id_text l.id ++ (32 ∷ (kind_word l.kind ++ (32 ∷ (text ++ (10 ∷ []))))) ≡ head_text l
placed_head l pos text e f =
    placed_parts (id_text l.id) (kind_word l.kind) text
    ∙ ap (λ w. id_text l.id ++ codes " " ++ kind_word l.kind ++ w ++ 10 ∷ []) (ap (λ w. codes " " ++ w) f ∙ ap pos_text (sym e))

-- an object that has none
pub bare_head : (l : Label) → l.pos ≡ None → id_text l.id ++ (32 ∷ (kind_word l.kind ++ (10 ∷ []))) ≡ head_text l
bare_head l e = bare_parts (id_text l.id) (kind_word l.kind) ∙ ap (λ w. id_text l.id ++ codes " " ++ kind_word l.kind ++ w ++ 10 ∷ []) (ap pos_text (sym e))

pub prop_is : (n : ℕ) (p : Name × Value) (b name value : List ℕ) → b ≡ blanks n → name ≡ p.0 → value ≡ json_text p.1 → b ++ (46 ∷ (name ++ (32 ∷ (value ++ (10 ∷ []))))) ≡ prop_line n p
prop_is n p b name value e f g = prop_parts b name value ∙ (λ i. e i ++ codes "." ++ f i ++ codes " " ++ g i ++ 10 ∷ [])

forest_push : (n : ℕ) (bs : List Branch) (b : Branch) → forest_text (forest_of (bs ++ b ∷ [])) n ≡ forest_text (forest_of bs) n ++ tree_text b n
forest_push n [] b = append-nil (tree_text b n)
forest_push n (a ∷ bs) b =
    ap (λ v. (label_text n a.label ++ forest_text a.below (suc n)) ++ v) (forest_push n bs b)
    ∙ sym (append_assoc (label_text n a.label ++ forest_text a.below (suc n)) (forest_text (forest_of bs) n) (tree_text b n))

pub forest_more : (n : ℕ) (bs : List Branch) (i : ℕ) (x : Branch) → i < length bs → x ≡ get_or bs i x → forest_text (forest_of (take (i + 1) bs)) n ≡ forest_text (forest_of (take i bs)) n ++ tree_text x n
forest_more n bs i x h w = ap (λ v. forest_text (forest_of v) n) (take_more bs i x h) ∙ forest_push n (take i bs) (get_or bs i x) ∙ ap (λ v. forest_text (forest_of (take i bs)) n ++ tree_text v n) (sym w)

pub tree_written : (n : ℕ) (l : Label) (bs : List Branch) (t : Branch) (a b c d : List ℕ)
    → (let v : Branch = record { label = l; below = forest_of bs } in v ≡ t)
    → b ≡ a ++ head_line n t.label → c ≡ b ++ flat_map (prop_line (n + 1)) l.props → d ≡ c ++ forest_text (forest_of bs) (n + 1) → d ≡ a ++ tree_text t n
unfolding label_text
tree_written n l bs t a b c d v e f g =
    let e2 : b ≡ a ++ head_line n l = e ∙ ap (λ (u : Branch). a ++ head_line n u.label) (sym v) in
    let f2 : c ≡ b ++ flat_map (prop_line (suc n)) l.props = f ∙ ap (λ m. b ++ flat_map (prop_line m) l.props) (add-one n) in
    let g2 : d ≡ c ++ forest_text (forest_of bs) (suc n) = g ∙ ap (λ m. c ++ forest_text (forest_of bs) m) (add-one n) in
    let h : c ≡ a ++ (head_line n l ++ flat_map (prop_line (suc n)) l.props) = joined a (head_line n l) (flat_map (prop_line (suc n)) l.props) b c _ e2 f2 refl in
    joined a (head_line n l ++ flat_map (prop_line (suc n)) l.props) (forest_text (forest_of bs) (suc n)) c d _ h g2 refl ∙ ap (λ u. a ++ tree_text u n) v
