-- The parts of a line that is spelled.
use Rattle.std.proofs.Common.{List, ℕ, ◌∙◌, sym, subst}
use Rattle.canvas_edit_lines.specs.Edits.{SpellsEdit}
use Rattle.canvas_edit_lines.proofs.Pairs.{Shape}
use Rattle.canvas_script.specs.declared.said.Head.{Head}
use Rattle.canvas_script.specs.declared.said.Head.TheVariants as head
use Rattle.canvas_script.specs.Words.{SpellsCount, SpellsNode}
use Rattle.canvas_script.specs.Lines.{Said, SpellsFirstWord, SpellsAfterWord, SpellsLong}
use Rattle.canvas_script.proofs.Blanks.{spelled_count_blank, spelled_node_blank, spelled_head_blank, one_head}

module _ (text : List ℕ) where
  pub long_shape : Shape SpellsFirstWord SpellsAfterWord (SpellsLong text) text
  long_shape = record { blank = spelled_head_blank; parts = λ said q. (q.0, said, q.1) }

  pub edit_of_shape : Shape SpellsNode (λ name. SpellsEdit) (SpellsAfterWord head.Edit text) text
  edit_of_shape = record { blank = spelled_node_blank; parts = λ said q. (q.0, q.1, q.3) }

  pub send_shape : Shape SpellsNode (λ name. SpellsCount) (SpellsAfterWord head.Send text) text
  send_shape = record { blank = spelled_node_blank; parts = λ said q. (q.0, q.1, q.3) }

  pub tell_shape : Shape SpellsCount (λ v. SpellsNode) (SpellsAfterWord head.Tell text) text
  tell_shape = record { blank = spelled_count_blank; parts = λ said q. (q.0, q.1, q.3) }

-- what follows the first word that was read
pub head_rest : (word rest : List ℕ) (v : Head) → SpellsFirstWord word v → (w : Head) (said : Said) → SpellsFirstWord word w → SpellsAfterWord w rest said → SpellsAfterWord v rest said
head_rest word rest v is w said is_w spelled = subst (λ w. SpellsAfterWord w rest said) (one_head w v (sym is_w ∙ is)) spelled
