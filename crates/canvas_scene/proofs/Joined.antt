-- Texts put together from parts.
use Rattle.std.proofs.Common.{◌≡◌, ℕ, List, [], ◌∷◌, ◌++◌, Option, Some, None, refl, sym, ap, ◌∙◌}
use Rattle.std.proofs.lemmas.List.{append_assoc}
use Rattle.std.specs.Prelude.{codes}
use Rattle.canvas_model.specs.declared.ObjId.{ObjId}
use Rattle.canvas_model.specs.declared.Kind.{Kind}
use Rattle.canvas_model.specs.Document.{Object, Place}
use Rattle.canvas_model.specs.Text.{id_text, kind_word, place_text}
use Rattle.canvas_tree.proofs.Lines.{bare_parts, placed_parts}
use Rattle.canvas_scene.specs.Report.{refused_place_text, object_line}

pub place_parts : (p q : List ℕ) → p ++ 32 ∷ q ≡ p ++ codes " " ++ q
place_parts p q = sym (append_assoc p (32 ∷ []) q)

-- the line of an object with a place
pub placed_line : (e : ObjId × Object) (kind : Kind) (stands : Option Place) (place : Place) (text : List ℕ) → kind ≡ e.1.kind → stands ≡ e.1.place → stands ≡ Some place → text ≡ place_text place
    → id_text e.0 ++ (32 ∷ (kind_word kind ++ (32 ∷ (text ++ (10 ∷ []))))) ≡ object_line e
placed_line e kind stands place text k s is t =
    placed_parts (id_text e.0) (kind_word kind) text
    ∙ ap (λ w. id_text e.0 ++ codes " " ++ w ++ (codes " " ++ text) ++ 10 ∷ []) (ap kind_word k)
    ∙ ap (λ w. id_text e.0 ++ codes " " ++ kind_word e.1.kind ++ w ++ 10 ∷ []) (ap (λ w. codes " " ++ w) t ∙ ap refused_place_text (sym is ∙ s))

-- the line of an object without one
pub bare_line : (e : ObjId × Object) (kind : Kind) (stands : Option Place) → kind ≡ e.1.kind → stands ≡ e.1.place → stands ≡ None
    → id_text e.0 ++ (32 ∷ (kind_word kind ++ (10 ∷ []))) ≡ object_line e
bare_line e kind stands k s is =
    bare_parts (id_text e.0) (kind_word kind)
    ∙ ap (λ w. id_text e.0 ++ codes " " ++ w ++ [] ++ 10 ∷ []) (ap kind_word k)
    ∙ ap (λ w. id_text e.0 ++ codes " " ++ kind_word e.1.kind ++ w ++ 10 ∷ []) (ap refused_place_text (sym is ∙ s))

-- a version, a blank, a text and a line feed
pub version_line : (v t u : List ℕ) → t ≡ u → v ++ (32 ∷ (t ++ (10 ∷ []))) ≡ v ++ codes " " ++ u ++ 10 ∷ []
version_line v t u e = ap (λ t. v ++ (32 ∷ (t ++ (10 ∷ [])))) e ∙ simp append_assoc refl

-- the number and the name of a reason, and what the refusal carries
pub refused_parts : (front n m w x c d : List ℕ) → n ≡ m → w ≡ x → c ≡ d → front ++ (n ++ (32 ∷ (w ++ c))) ≡ front ++ m ++ codes " " ++ x ++ d
refused_parts front n m w x c d a b e =
    ap (λ n. front ++ (n ++ (32 ∷ (w ++ c)))) a ∙ ap (λ w. front ++ (m ++ (32 ∷ (w ++ c)))) b ∙ ap (λ c. front ++ (m ++ (32 ∷ (x ++ c)))) e ∙ simp append_assoc refl
