use Rattle.canvas_live.proofs.Forms.{here_is, no_live_here, no_message_here}
use Rattle.canvas_live.proofs.laws.every_here.Goals as goal

pub returns : goal.returns
returns c = record {
  form = here_is;
  apart = no_message_here;
  no_place = no_live_here;
}
