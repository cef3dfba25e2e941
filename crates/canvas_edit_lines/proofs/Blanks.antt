-- No word of an edit has a blank.
use Rattle.std.proofs.Common.{List, ℕ, sym, subst}
use Rattle.canvas_model.specs.declared.ObjId.{ObjId}
use Rattle.canvas_model.specs.declared.Kind.{Kind}
use Rattle.canvas_model.specs.Document.{Name}
use Rattle.canvas_model.specs.Words.{Lacks}
use Rattle.canvas_model.proofs.Written.{id_blank}
use Rattle.canvas_lines.specs.declared.words.Verb.{Verb}
use Rattle.canvas_lines.specs.Spelling.{SpellsName, SpellsVerb}
use Rattle.canvas_lines.proofs.Parts.{name_blank}
use Rattle.canvas_lines.proofs.Spellings.{kind_blank, verb_blank}
use Rattle.canvas_edit_lines.specs.Words.{SpellsId, SpellsKind}

pub spelled_id_blank : (word : List ℕ) (id : ObjId) → SpellsId word id → Lacks 32 word
spelled_id_blank word id spelled = subst (Lacks 32) (sym spelled.1) (id_blank id spelled.0)

pub spelled_kind_blank : (word : List ℕ) (kind : Kind) → SpellsKind word kind → Lacks 32 word
spelled_kind_blank word kind spelled = subst (Lacks 32) (sym spelled) (kind_blank kind)

pub spelled_name_blank : (word : List ℕ) (name : Name) → SpellsName word name → Lacks 32 word
spelled_name_blank word name spelled = subst (Lacks 32) (sym spelled.1) (name_blank name spelled.0)

pub spelled_verb_blank : (word : List ℕ) (verb : Verb) → SpellsVerb word verb → Lacks 32 word
spelled_verb_blank word verb spelled = subst (Lacks 32) (sym spelled) (verb_blank verb)
