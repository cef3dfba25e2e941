-- What is proved of messages, in the first version.
use Rattle.std.proofs.Common.{◌≡◌, ℕ, ◌&&◌, inl, inr, List, Bool, true, false, cond, Option, Some, None, codes, bytes_eq, refl, ap, sym, subst, ◌∙◌, arith}
use Rattle.std.specs.FinMap as map
use Rattle.std.proofs.Math.Bool.{and-true}
use Rattle.serde_json.specs.Data.{Data, Items, no_items, item}
use Rattle.canvas_model.specs.declared.ObjId.{ObjId}
use Rattle.canvas_model.specs.Ids.{id_cmp}
use Rattle.canvas_model.specs.Document.{Object}
use Rattle.canvas_model.specs.Messages.{Message, Welcome, Idle, No}
use Rattle.canvas_model.specs.Messages as messages
use Rattle.canvas_codec.specs.Shape.{shape}
use Rattle.canvas_codec.specs.Codec.{IsCodec, StandsFor}
use Rattle.canvas_value.specs.Range.{is_within}
use Rattle.canvas_codec.specs.Parts.{whole_in}
use Rattle.canvas_codec.specs.Faults.{RefusesShape}
use Rattle.canvas_codec.specs.declared.json_fault.JsonFault.{JsonFault}
use Rattle.canvas_codec.specs.declared.json_fault.JsonFault.TheVariants as value
use Rattle.canvas_value.proofs.Tests.{both_hold}
use Rattle.canvas_codec.proofs.Forms.{stands_for, out_of_range, no_shape}
use Rattle.canvas_forms.specs.Version.{version_two}
use Rattle.canvas_forms.specs.JsonTree.{worded}
use Rattle.canvas_forms.specs.Rows.{rows_form}
use Rattle.canvas_forms.specs.RowOrder.{are_in_order}
use Rattle.canvas_forms.specs.InOrder.{rows_in}
use Rattle.canvas_forms.proofs.Members.{no_word, word_first}
use Rattle.canvas_forms.proofs.Orders.{ordered_document}
use Rattle.canvas_wire.specs.Messages.{MessageParts, message_words, copied, parts_form, message_of, parts_of, message_in, message_after, copy_in_order, is_orderly, IsMessageShape, IsMessageJson}
use Rattle.canvas_wire.specs.Drafts.{IsMade}
use Rattle.canvas_wire.specs.Faults.{refusal, Means, IsOut, IsUnfinished}
use Rattle.canvas_wire.specs.Text.{IsShallowMessage, IsMessageFault}
use Rattle.canvas_wire.specs.declared.fault.WireError.{WireError}
use Rattle.canvas_wire.specs.declared.fault.WireError.TheVariants.{NotJson, NotAMessage, OutOfRange, TooDeep, Memory}
use Rattle.canvas_wire.proofs.MessageForms.{parts_are}
use Rattle.canvas_wire.proofs.Tested.{neither, tested_case, unread_case}
use Rattle.canvas_wire.proofs.Decoding.{stands_one}

pub is_form : IsCodec (parts_form version_two)
is_form = parts_are version_two (omega arith)

-- a message is that of its parts
pub message_back : (m : Message) → message_of (parts_of m) ≡ m
message_back messages.Join = refl
message_back (Welcome client) = refl
message_back (messages.Edit client seq change) = refl
message_back (messages.Ask client version) = refl
message_back (messages.Entry version entry) = refl
message_back (messages.Copy version done doc) = ap (messages.Copy version done) (map.same_entries_map _ _ (map.entries-from_sorted id_cmp (map.entries doc) (map.entries_sorted doc)))
message_back Idle = refl
message_back (No reason) = refl

pub one_message : (d : Data) (m n : Message) → IsMessageJson version_two d m → IsMessageJson version_two d n → m ≡ n
one_message d m n (o, s) (p, t) = sym (message_back m) ∙ ap message_of (stands_one (parts_form version_two) is_form (λ _. Unit {0}) d (parts_of m) (parts_of n) s t) ∙ message_back n

pub message_shaped : (d : Data) (m : Message) → IsMessageJson version_two d m → IsMessageShape version_two d
message_shaped d m (o, s) = (o, (parts_of m, s.0, ap shape s.2))

-- ---- what was read of an orderly JSON tree

was_orderly : (d : Data) (r : MessageParts × Bool) → message_in version_two d ≡ Some r → (is_orderly d ≡ true) × ((parts_form version_two).read d ≡ Some r)
was_orderly d r e = tested_case (is_orderly d) ((parts_form version_two).read d) r e

-- what a fault of the shape says of the JSON tree
pub message_fault : (d : Data) (f : JsonFault) → RefusesShape (message_in version_two d) f → IsMessageFault d (refusal f)
message_fault d value.NotAValue e = λ s. no_shape (parts_form version_two) is_form d (unread_case (is_orderly d) ((parts_form version_two).read d) e s.0) s.1
message_fault d value.OutOfRange e = absurd e
message_fault d value.Memory e = tt

-- parts whose rows are a document are those of their message
pub parts_back : (p : MessageParts) → IsMade p → parts_of (message_of p) ≡ p
parts_back (inl p) h = refl
parts_back (inr (inl p)) h = refl
parts_back (inr (inr (inl p))) h = refl
parts_back (inr (inr (inr (inl p)))) h = refl
parts_back (inr (inr (inr (inr (inl p))))) h = refl
parts_back (inr (inr (inr (inr (inr (inl p)))))) h = ap (λ es. inr (inr (inr (inr (inr (inl (p.0, (p.1.0, (es, tt))))))))) (map.entries-from_sorted id_cmp p.1.1.0 h.sorted)
parts_back (inr (inr (inr (inr (inr (inr (inl p))))))) h = refl
parts_back (inr (inr (inr (inr (inr (inr (inr p))))))) h = refl

made_written : (p : MessageParts) → is_orderly ((parts_form version_two).write p) ≡ true → (parts_form version_two).fits p ≡ true → IsMade p
made_written (inl p) o f = tt
made_written (inr (inl p)) o f = tt
made_written (inr (inr (inl p))) o f = tt
made_written (inr (inr (inr (inl p)))) o f = tt
made_written (inr (inr (inr (inr (inl p))))) o f = tt
made_written (inr (inr (inr (inr (inr (inl p)))))) o f = ordered_document p.1.1.0 o
made_written (inr (inr (inr (inr (inr (inr (inl p))))))) o f = tt
made_written (inr (inr (inr (inr (inr (inr (inr p))))))) o f = (both_hold (is_within 1 9 p.0) true f).0

-- ---- the word at the head

pub unworded : (d : Data) → worded d ≡ None → message_in version_two d ≡ None
unworded d e = ap (λ o. cond (is_orderly d) o None) (no_word (message_words version_two).read d e) ∙ neither (is_orderly d)

pub unknown : (d : Data) (w : List ℕ) (ds : Items) → worded d ≡ Some (w, ds) → bytes_eq w (codes "join") ≡ false → bytes_eq w (codes "welcome") ≡ false → bytes_eq w (codes "edit") ≡ false → bytes_eq w (codes "ask") ≡ false
    → bytes_eq w (codes "entry") ≡ false → bytes_eq w (codes "copy") ≡ false → bytes_eq w (codes "idle") ≡ false → bytes_eq w (codes "no") ≡ false → message_in version_two d ≡ None
unknown d w ds e h1 h2 h3 h4 h5 h6 h7 h8 = ap (message_in version_two) (word_first d w ds e) ∙ rw (h1, h2, h3, h4, h5, h6, h7, h8) refl

-- ---- the members of a copy

pub unread_copy : (ds : Items) → copied.read ds ≡ None → message_after version_two (codes "copy") ds ≡ None
unread_copy ds e = rw e (neither (copy_in_order ds))

module _ (a b r : Data) (version done : ℕ) (version_fits done_fits : Bool) (h : whole_in 0 4611686018427387904 a ≡ Some (version, version_fits)) (k : whole_in 0 4611686018427387904 b ≡ Some (done, done_fits)) where
  pub copy_read : (es : List (ObjId × Object)) (fits : Bool) → rows_in r ≡ Some (es, fits)
      → message_after version_two (codes "copy") (item a (item b (item r no_items))) ≡ Some (inr (inr (inr (inr (inr (inl (version, (done, (es, tt)))))))), version_fits && (done_fits && fits))
  copy_read es fits e =
      let t = tested_case (are_in_order r) (rows_form.read r) (es, fits) e in
      rw (t.0, h, k, t.1, and-true fits) refl

  rows_case : (t : Bool) (o : Option (List (ObjId × Object) × Bool)) → are_in_order r ≡ t → rows_form.read r ≡ o → cond t o None ≡ None
      → message_after version_two (codes "copy") (item a (item b (item r no_items))) ≡ None
  rows_case true o i j e = rw (i, h, k, j, e) refl
  rows_case false o i j e = rw i refl

  pub copy_refused : (f : JsonFault) → RefusesShape (rows_in r) f → RefusesShape (message_after version_two (codes "copy") (item a (item b (item r no_items)))) f
  copy_refused value.NotAValue e = rows_case (are_in_order r) (rows_form.read r) refl refl e
  copy_refused value.OutOfRange e = e
  copy_refused value.Memory e = tt

module _ (d : Data) (p : MessageParts) (b : Bool) (e : message_in version_two d ≡ Some (p, b)) where
  in_range_was : b ≡ true → (is_orderly d ≡ true) × StandsFor (parts_form version_two) d p
  in_range_was t =
      let w = was_orderly d (p, b) e in
      (w.0, stands_for (parts_form version_two) is_form d p (w.1 ∙ ap (λ (f : Bool). Some (p, f)) t))

  -- what was read in range can be made a message
  pub made : b ≡ true → IsMade p
  made t =
      let w = in_range_was t in
      made_written p (ap is_orderly w.1.2 ∙ w.0) w.1.1

  json_was : b ≡ true → IsMessageJson version_two d (message_of p)
  json_was t =
      let w = in_range_was t in
      (w.0, subst (StandsFor (parts_form version_two) d) (sym (parts_back p (made t))) w.1)

  pub message_means : b ≡ true → IsShallowMessage (message_of p) → Means (IsMessageJson version_two) IsShallowMessage d (message_of p)
  message_means t s = (json_was t, s)

  pub message_deep : b ≡ true → (IsShallowMessage (message_of p) → ⊥) → IsMessageFault d TooDeep
  message_deep t s = (message_of p, json_was t, s)

  pub message_unfinished : b ≡ true → (f : WireError) → IsUnfinished (IsShallowMessage (message_of p)) f → IsMessageFault d f
  message_unfinished t TooDeep deep = message_deep t deep
  message_unfinished t Memory h = tt
  message_unfinished t NotJson h = absurd h
  message_unfinished t NotAMessage h = absurd h
  message_unfinished t OutOfRange h = absurd h

  pub message_out : b ≡ false → IsOut (IsMessageShape version_two) (IsMessageJson version_two) d
  message_out t =
      let w = was_orderly d (p, b) e in
      let out = out_of_range (parts_form version_two) is_form d p (w.1 ∙ ap (λ (f : Bool). Some (p, f)) t) in
      ((w.0, out.0), λ m s. out.1 (parts_of m) s.1)
