use Rattle.canvas_codec.proofs.Forms.{whole_is, text_is, word_is, via_is, maybe_is, end_is, member_is, each_is, array_is, headed_is, after_is, choice_is}
use Rattle.canvas_codec.proofs.parts.every_part.Goals as goal

pub returns : goal.returns
returns g c = record {
  whole = whole_is;
  text = text_is;
  word = word_is;
  other = via_is;
  maybe = maybe_is;
  end = end_is;
  member = member_is;
  rest = each_is;
  array = array_is;
  worded = headed_is;
  one_word = after_is;
  choice = choice_is;
}
