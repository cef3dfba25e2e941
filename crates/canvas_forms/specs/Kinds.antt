-- Kinds of objects as JSON: each is one word.
use Rattle.std.specs.Prelude.{◌||◌, ℕ, List, Bool, bytes_eq, if◌then◌else◌}
use Rattle.canvas_model.specs.declared.Kind.{Kind}
use Rattle.canvas_model.specs.declared.Kind.TheVariants.{Document, Page, Frame, Shape, Text}
use Rattle.canvas_model.specs.Text.{kind_word}
use Rattle.canvas_codec.specs.Codec.{Codec}
use Rattle.canvas_codec.specs.Parts.{via, text_of}

-- whether it is the word of this kind
abbrev pub is_word_of : Kind → List ℕ → Bool
is_word_of kind s = bytes_eq s (kind_word kind)

-- whether it is the word of a kind
abbrev pub is_kind : List ℕ → Bool
is_kind s = is_word_of Document s || (is_word_of Page s || (is_word_of Frame s || (is_word_of Shape s || is_word_of Text s)))

-- the kind of this word
abbrev pub kind_named : List ℕ → Kind
kind_named s = if is_word_of Document s then Document else (if is_word_of Page s then Page else (if is_word_of Frame s then Frame else (if is_word_of Shape s then Shape else Text)))

-- the word of the kind
abbrev pub kind_form : Codec Kind
kind_form = via kind_named kind_word (text_of is_kind)
