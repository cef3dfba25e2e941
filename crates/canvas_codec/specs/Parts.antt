-- The parts that forms are put together from.
use Rattle.std.specs.Prelude.{◌&&◌, ◌⊎◌, ℕ, pos, negsuc, List, [], ◌∷◌, Bool, true, false, nat_le, bytes_eq, Option, Some, None, option_map, if◌then◌else◌}
use mathlib.Core.Logic.{inl, inr}
use Rattle.serde_json.specs.Data as D
use Rattle.serde_json.specs.Data.{unsigned, negative, float, Data, null, boolean, string, array, object, Items, no_items, item}
use Rattle.canvas_codec.specs.Codec.{Form, Codec, Members, Worded}
use Rattle.canvas_value.specs.Range.{is_within}

-- what is read is made into a thing of another type, and its numbers stay in range or out of it
abbrev pub with_fit : {A B : Type 0} → (A → B) → A × Bool → B × Bool
with_fit f r = (f r.0, r.1)

-- things of another type that come to the same
abbrev pub via : {D X Y : Type 0} → (X → Y) → (Y → X) → Form D X → Form D Y
via to from f = record { write = λ y. f.write (from y); sound = λ y. f.sound (from y); fits = λ y. f.fits (from y); read = λ d. option_map (with_fit to) (f.read d) }

-- ---- JSON trees

-- a whole number of 64 bits, which is to be one from low to high
abbrev pub whole_in : ℕ → ℕ → Data → Option (ℕ × Bool)
whole_in low high null = None
whole_in low high (boolean b) = None
whole_in low high (D.number (unsigned n)) = if is_within low high n then Some (n, true) else Some (0, false)
whole_in low high (D.number (negative (pos n))) = None
whole_in low high (D.number (negative (negsuc n))) = Some (0, false)
whole_in low high (D.number (float x)) = None
whole_in low high (string s) = None
whole_in low high (array ds) = None
whole_in low high (object ms) = None

-- the form of a whole number from low to high
abbrev pub whole : ℕ → ℕ → Codec ℕ
whole low high = record { write = λ n. D.number (unsigned n); sound = λ _. true; fits = is_within low high; read = whole_in low high }

-- a text that meets a test
abbrev pub text_in : (List ℕ → Bool) → Data → Option (List ℕ × Bool)
text_in test null = None
text_in test (boolean b) = None
text_in test (D.number n) = None
text_in test (string s) = if test s then Some (s, true) else None
text_in test (array ds) = None
text_in test (object ms) = None

-- the form of a text that meets a test
abbrev pub text_of : (List ℕ → Bool) → Codec (List ℕ)
text_of test = record { write = string; sound = test; fits = λ _. true; read = text_in test }

-- one word
abbrev pub word : List ℕ → Codec (Unit {0})
word w = via (λ _. tt) (λ _. w) (text_of (λ s. bytes_eq s w))

-- null, or a thing that isn't written as null
abbrev pub maybe_in : {X : Type 0} → (Data → Option (X × Bool)) → Data → Option (Option X × Bool)
maybe_in f null = Some (None, true)
maybe_in f (boolean b) = option_map (with_fit Some) (f (boolean b))
maybe_in f (D.number n) = option_map (with_fit Some) (f (D.number n))
maybe_in f (string s) = option_map (with_fit Some) (f (string s))
maybe_in f (array ds) = option_map (with_fit Some) (f (array ds))
maybe_in f (object ms) = option_map (with_fit Some) (f (object ms))

-- null, or what is written of a thing
abbrev pub maybe_written : {X : Type 0} → (X → Data) → Option X → Data
maybe_written f None = null
maybe_written f (Some x) = f x

-- a test that only a thing can fail
abbrev pub maybe_test : {X : Type 0} → (X → Bool) → Option X → Bool
maybe_test f None = true
maybe_test f (Some x) = f x

-- the form of a thing that may be missing
abbrev pub maybe : {X : Type 0} → Codec X → Codec (Option X)
maybe c = record { write = maybe_written c.write; sound = maybe_test c.sound; fits = maybe_test c.fits; read = maybe_in c.read }

-- ---- the members of an array

-- no more members
abbrev pub end_in : Items → Option (Unit {0} × Bool)
end_in no_items = Some (tt, true)
end_in (item d ds) = None

-- the form of the end of an array
abbrev pub end : Members (Unit {0})
end = record { write = λ _. no_items; sound = λ _. true; fits = λ _. true; read = end_in }

-- both things, whose numbers are in range where those of each are
abbrev pub join : {X Y : Type 0} → Option (X × Bool) → Option (Y × Bool) → Option ((X × Y) × Bool)
join None s = None
join (Some r) None = None
join (Some r) (Some s) = Some ((r.0, s.0), r.1 && s.1)

-- one member, and those after it
abbrev pub member_in : {X Y : Type 0} → (Data → Option (X × Bool)) → (Items → Option (Y × Bool)) → Items → Option ((X × Y) × Bool)
member_in f g no_items = None
member_in f g (item d ds) = join (f d) (g ds)

-- the form of one member and of those after it
abbrev pub member : {X Y : Type 0} → Codec X → Members Y → Members (X × Y)
member c r = record { write = λ p. item (c.write p.0) (r.write p.1); sound = λ p. c.sound p.0 && r.sound p.1; fits = λ p. c.fits p.0 && r.fits p.1; read = member_in c.read r.read }

-- any number of members of one form
abbrev pub each_in : {X : Type 0} → (Data → Option (X × Bool)) → Items → Option (List X × Bool)
each_in f no_items = Some ([], true)
each_in f (item d ds) = option_map (with_fit (λ p. p.0 ∷ p.1)) (join (f d) (each_in f ds))

-- each thing, written as a member
abbrev pub each_written : {X : Type 0} → (X → Data) → List X → Items
each_written f [] = no_items
each_written f (x ∷ xs) = item (f x) (each_written f xs)

-- every thing meets the test
abbrev pub each_test : {X : Type 0} → (X → Bool) → List X → Bool
each_test f [] = true
each_test f (x ∷ xs) = f x && each_test f xs

-- the form of any number of members
abbrev pub each : {X : Type 0} → Codec X → Members (List X)
each c = record { write = each_written c.write; sound = each_test c.sound; fits = each_test c.fits; read = each_in c.read }

-- the members of an array, read
abbrev pub array_in : {X : Type 0} → (Items → Option (X × Bool)) → Data → Option (X × Bool)
array_in f null = None
array_in f (boolean b) = None
array_in f (D.number n) = None
array_in f (string s) = None
array_in f (array ds) = f ds
array_in f (object ms) = None

-- the form of an array
abbrev pub array_of : {X : Type 0} → Members X → Codec X
array_of r = record { write = λ x. array (r.write x); sound = r.sound; fits = r.fits; read = array_in r.read }

-- ---- arrays that begin with a word

-- the word that an array begins with, and its other members
abbrev pub head_word : Items → Option (List ℕ × Items)
head_word no_items = None
head_word (item null ds) = None
head_word (item (boolean b) ds) = None
head_word (item (D.number n) ds) = None
head_word (item (string s) ds) = Some (s, ds)
head_word (item (array es) ds) = None
head_word (item (object ms) ds) = None

-- an array that begins with a word, read
abbrev pub head_in : {X : Type 0} → (List ℕ × Items → Option (X × Bool)) → Items → Option (X × Bool)
head_in f no_items = None
head_in f (item null ds) = None
head_in f (item (boolean b) ds) = None
head_in f (item (D.number n) ds) = None
head_in f (item (string s) ds) = f (s, ds)
head_in f (item (array es) ds) = None
head_in f (item (object ms) ds) = None

-- the form of an array that begins with a word
abbrev pub headed : {X : Type 0} → Worded X → Members X
headed w = record { write = λ x. item (string (w.write x).0) (w.write x).1; sound = w.sound; fits = w.fits; read = head_in w.read }

-- one word, and what comes after it
abbrev pub after : {X : Type 0} → List ℕ → Members X → Worded X
after v r = record { write = λ x. (v, r.write x); sound = r.sound; fits = r.fits; read = λ p. if bytes_eq p.0 v then r.read p.1 else None }

-- the one or the other, whichever is there
abbrev pub side : {X Y Z : Type 0} → (X → Z) → (Y → Z) → X ⊎ Y → Z
side f g (inl x) = f x
side f g (inr y) = g y

-- one word and what comes after it, or else an array that begins with another
abbrev pub choice : {X Y : Type 0} → List ℕ → Members X → Worded Y → Worded (X ⊎ Y)
choice {X} {Y} v r w = record {
  write = side (λ x. (v, r.write x)) w.write;
  sound = side r.sound w.sound;
  fits = side r.fits w.fits;
  read = λ p. if bytes_eq p.0 v then option_map {U = (X ⊎ Y) × Bool} (with_fit inl) (r.read p.1) else option_map (with_fit inr) (w.read p);
}
