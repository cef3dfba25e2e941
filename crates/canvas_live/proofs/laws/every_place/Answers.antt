use Rattle.canvas_live.proofs.Forms.{live_is, no_message}
use Rattle.canvas_live.proofs.laws.every_place.Goals as goal

pub returns : goal.returns
returns c = record {
  form = live_is;
  apart = no_message;
}
