use Rattle.canvas_codec.proofs.Forms.{stands_for, reads_what_stands, out_of_range, no_shape}
use Rattle.canvas_codec.proofs.parts.every_form.Goals as goal

pub returns : goal.returns
returns g c = record {
  read = λ f h d x. (stands_for f h d x, reads_what_stands f h d x);
  out_of_range = out_of_range;
  unread = no_shape;
}
