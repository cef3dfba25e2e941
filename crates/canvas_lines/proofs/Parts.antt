-- A place and a name are spelled in one way.
use Rattle.std.proofs.Common.{◌≡◌, ℕ, zero, suc, List, [], ◌∷◌, ◌++◌, Bool, true, false, ◌&&◌, subst, ◌∙◌, arith, append_assoc}
use Rattle.std.specs.List.{list_all}
use Rattle.canvas_model.specs.Document.{Name, Place}
use Rattle.canvas_model.specs.Text.{id_text, place_text}
use Rattle.canvas_model.specs.Words.{Lacks, IsCut}
use Rattle.canvas_model.proofs.Cut.{cut_is}
use Rattle.canvas_model.proofs.Written.{id_blank}
use Rattle.canvas_value.specs.Names.{IsName, is_name_byte}
use Rattle.canvas_lines.specs.Spelling.{IsSpellablePlace}

pub place_spelled : (place : Place) → place_text place ≡ id_text place.parent ++ 32 ∷ place.pos
place_spelled place = append_assoc (id_text place.parent) (32 ∷ []) place.pos

pub place_parts : (s before after : List ℕ) (place : Place) → IsCut 32 s before after → IsSpellablePlace place → s ≡ place_text place → (before ≡ id_text place.parent) × (after ≡ place.pos)
place_parts s before after place cut is_place is = cut_is 32 s before after (id_text place.parent) place.pos cut (id_blank place.parent is_place.0) (is ∙ place_spelled place)

second_holds : (a b : Bool) → a && b ≡ true → b ≡ true
second_holds true b e = e
second_holds false b e = absurd (let f : false ≡ true = e in cc)

name_lacks : (s : List ℕ) → list_all is_name_byte s ≡ true → Lacks 32 s
name_lacks [] e k lt = absurd (omega arith)
name_lacks (b ∷ s) e zero lt = λ is. absurd (let bad : is_name_byte 32 && list_all is_name_byte s ≡ true = subst (λ b. is_name_byte b && list_all is_name_byte s ≡ true) is e in cc)
name_lacks (b ∷ s) e (suc k) lt = name_lacks s (second_holds (is_name_byte b) (list_all is_name_byte s) e) k (omega arith)

pub name_blank : (name : Name) → IsName name → Lacks 32 name
name_blank name is = name_lacks name is.2
