use Rattle.canvas_pos.proofs.MiddleLaws.{middle-position, middle-inside, middle-unique, middle-short, shut-outside, middle-alone}
use Rattle.canvas_pos.proofs.every_middle.Goals as goal

pub returns : goal.returns
returns c = record {
  position = middle-position;
  inside = middle-inside;
  only = λ lo hi p e f h q k. middle-unique lo hi q p e f k h;
  short = middle-short;
  none = shut-outside;
  alone = middle-alone;
}
