-- How proofs store a tree: as a tree of numbers that tells it from every other. And that each tree is greater than those in it.
use Rattle.std.specs.Prelude.{◌≡◌, ◌+◌, ◌≤◌, List, [], ◌∷◌, Option, refl}
use Rattle.std.specs.Coded.{Coded, code_by, coded×, coded_ℕ, coded_list, coded_option}
use Rattle.std.proofs.Common.{ap, arith}
use base.Stored.{Gv, gnil, gnum, gcons}
use denote.Param.Weighed.{most}
use Rattle.canvas_model.specs.declared.ObjId.{ObjId}
use Rattle.canvas_model.specs.declared.Kind.{Kind}
use Rattle.canvas_model.specs.Value.{Value}
use Rattle.canvas_model.specs.Document.{Pos, Name}
use Rattle.canvas_model.specs.Codes.{id_code, kind_code, value_code}
use Rattle.canvas_tree.specs.Shapes.{Label, Forest, none, tree, Branch, forest_of, forest_size, branch_size}

abbrev pub label_code : Coded Label
label_code =
    code_by (ObjId × (Kind × (Option Pos × List (Name × Value))))
    (coded× id_code (coded× kind_code (coded× (coded_option (coded_list coded_ℕ)) (coded_list (coded× (coded_list coded_ℕ) value_code)))))
    (λ l. (l.id, (l.kind, (l.pos, l.props))))
    (λ p. record { id = p.0; kind = p.1.0; pos = p.1.1.0; props = p.1.1.1 })
    (λ _. refl)

abbrev of_forest : Forest → Gv
of_forest none = gnil
of_forest (tree l k r) = gcons (label_code.code l) (gcons (of_forest k) (of_forest r))

abbrev first : Gv → Gv
first gnil = gnil
first (gnum n) = gnil
first (gcons a b) = a

abbrev second : Gv → Gv
second gnil = gnil
second (gnum n) = gnil
second (gcons a b) = b

pub forest_one : (f g : Forest) → of_forest f ≡ of_forest g → f ≡ g
forest_one none none e = refl
forest_one none (tree l k r) e = cc
forest_one (tree l k r) none e = cc
forest_one (tree l k r) (tree m h s) e = λ i. tree (label_code.inj l m (ap first e) i) (forest_one k h (ap (λ v. first (second v)) e) i) (forest_one r s (ap (λ v. second (second v)) e) i)

pub branch_one : (a b : Branch) → gcons (label_code.code a.label) (of_forest a.below) ≡ gcons (label_code.code b.label) (of_forest b.below) → a ≡ b
branch_one a b e = λ i. record { label = label_code.inj a.label b.label (ap first e) i; below = forest_one a.below b.below (ap second e) i }

abbrev pub branch_code : Coded Branch
branch_code = record { code = λ b. gcons (label_code.code b.label) (of_forest b.below); inj = branch_one }

-- each tree is smaller than what it stands in
pub most_members : (bs : List Branch) → most (λ b. branch_size b + 1) bs ≤ forest_size (forest_of bs) + 1
most_members [] = omega arith
most_members (b ∷ bs) = omega (arith, most_members bs)
