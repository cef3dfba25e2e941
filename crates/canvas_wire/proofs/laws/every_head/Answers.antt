use Rattle.canvas_wire.proofs.HeadForms.{head_is}
use Rattle.canvas_wire.proofs.Stored.{head_text_once, head_back, written_head, no_text_is_both}
use Rattle.canvas_wire.proofs.laws.every_head.Goals as goal

pub returns : goal.returns
returns c = record {
  form = head_is;
  back = head_back;
  one = head_text_once;
  storable_back = written_head;
  apart = no_text_is_both;
}
