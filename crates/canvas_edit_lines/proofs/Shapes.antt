-- The parts of an edit that is spelled.
use Rattle.std.proofs.Common.{List, ℕ, ◌∙◌, sym, subst}
use Rattle.canvas_model.specs.Local.{EditRequest}
use Rattle.canvas_lines.specs.declared.words.Verb.{Verb}
use Rattle.canvas_lines.specs.declared.words.Verb.TheVariants as verb
use Rattle.canvas_lines.specs.Spelling.{SpellsName, SpellsVerb}
use Rattle.canvas_lines.proofs.Spellings.{one_verb}
use Rattle.canvas_edit_lines.specs.Words.{SpellsChildBefore, SpellsId, SpellsKind}
use Rattle.canvas_edit_lines.specs.Edits.{SpellsTarget, SpellsShallow, SpellsProperty, SpellsEditRest, SpellsEdit}
use Rattle.canvas_edit_lines.proofs.Blanks.{spelled_id_blank, spelled_kind_blank, spelled_name_blank, spelled_verb_blank}
use Rattle.canvas_edit_lines.proofs.Pairs.{Shape}

module _ (text : List ℕ) where
  pub target_shape : Shape SpellsId (λ parent. SpellsChildBefore) (SpellsTarget text) text
  target_shape = record { blank = spelled_id_blank; parts = λ target q. (target.parent, target.after, q) }

  pub property_shape : Shape SpellsName (λ name. SpellsShallow) (SpellsProperty text) text
  property_shape = record { blank = spelled_name_blank; parts = λ property q. (property.0, property.1, q) }

  pub creation_shape : Shape SpellsKind (λ kind. SpellsTarget) (SpellsEditRest verb.Create text) text
  creation_shape = record { blank = spelled_kind_blank; parts = λ request q. (q.0, q.1, q.3) }

  pub setting_shape : Shape SpellsId (λ id. SpellsProperty) (SpellsEditRest verb.Set text) text
  setting_shape = record { blank = spelled_id_blank; parts = λ request q. (q.0, (q.1, q.2), q.4) }

  pub clearing_shape : Shape SpellsId (λ id. SpellsName) (SpellsEditRest verb.Clear text) text
  clearing_shape = record { blank = spelled_id_blank; parts = λ request q. (q.0, q.1, q.3) }

  pub move_shape : Shape SpellsId (λ id. SpellsTarget) (SpellsEditRest verb.Move text) text
  move_shape = record { blank = spelled_id_blank; parts = λ request q. (q.0, q.1, q.3) }

  pub edit_shape : Shape SpellsVerb SpellsEditRest (SpellsEdit text) text
  edit_shape = record { blank = spelled_verb_blank; parts = λ request q. (q.0, request, q.1) }

-- what follows the verb that was read
pub verb_rest : (word rest : List ℕ) (v : Verb) → SpellsVerb word v → (w : Verb) (request : EditRequest) → SpellsVerb word w → SpellsEditRest w rest request → SpellsEditRest v rest request
verb_rest word rest v is w request is_w spelled = subst (λ w. SpellsEditRest w rest request) (one_verb w v (sym is_w ∙ is)) spelled
