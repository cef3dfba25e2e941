-- Messages have a form: what is written is read, and nothing else is.
use Rattle.std.proofs.Common.{◌≡◌, ℕ, ◌≤◌, ◌⊎◌, inl, inr, List, true, false, bytes_eq, codes, refl, arith}
use Rattle.canvas_model.specs.declared.ObjId.{ObjId}
use Rattle.canvas_model.specs.Document.{Object}
use Rattle.canvas_model.specs.Change.{Change}
use Rattle.canvas_model.specs.Log.{Entry}
use Rattle.canvas_codec.specs.Codec.{Members, Worded, IsCodec, AreMembers, IsWorded}
use Rattle.canvas_value.specs.Range.{is_within}
use Rattle.canvas_codec.specs.Parts.{whole, choice, after, end}
use Rattle.canvas_codec.proofs.Forms.{whole_is, end_is, member_is, array_is, headed_is, after_is, choice_is}
use Rattle.canvas_forms.specs.Version.{Version}
use Rattle.canvas_forms.specs.Ids.{client_form}
use Rattle.canvas_forms.specs.Outcomes.{alone}
use Rattle.canvas_forms.proofs.Forms.{numbered_is, client_is, version_is, change_is}
use Rattle.canvas_forms.proofs.RowForms.{rows_is}
use Rattle.canvas_wire.specs.Messages.{number_form, sent, asked, told, copied, message_words, parts_form}
use Rattle.canvas_wire.proofs.EntryForms.{entry_is}

-- words that are told apart from another word
apart_after : {X : Type 0} (u v : List ℕ) (r : Members X) → bytes_eq u v ≡ false → (x : X) → bytes_eq ((after u r).write x).0 v ≡ false
apart_after u v r e x = e

apart_choice : {X Y : Type 0} (u v : List ℕ) (r : Members X) (w : Worded Y) → bytes_eq u v ≡ false → ((y : Y) → bytes_eq (w.write y).0 v ≡ false) → (z : X ⊎ Y) → bytes_eq ((choice u r w).write z).0 v ≡ false
apart_choice u v r w e k (inl x) = e
apart_choice u v r w e k (inr y) = k y

pub number_only : (v n : ℕ) → is_within v v n ≡ true → v ≡ n
number_only v n e = grind (arith, e)

pub number_is : (v : Version) → IsCodec (number_form v)
number_is v = numbered_is v.number v.number (λ _. tt) (λ _. v.number) (λ x. refl) (number_only v.number)

module _ (v : Version) (h : v.last_reason ≤ 8) where
  abbrev no_words : Worded (ℕ × Unit {0})
  no_words = after (codes "no") (alone (whole 1 v.last_no))

  no_is : IsWorded no_words
  no_is = after_is _ _ (member_is _ _ (whole_is 1 v.last_no) end_is)

  abbrev idle_words : Worded (Unit {0} ⊎ (ℕ × Unit {0}))
  idle_words = choice (codes "idle") end no_words

  idle_is : IsWorded idle_words
  idle_is = choice_is (codes "idle") end no_words end_is no_is (apart_after (codes "no") (codes "idle") (alone (whole 1 v.last_no)) refl)

  abbrev copy_words : Worded ((ℕ × (ℕ × (List (ObjId × Object) × Unit {0}))) ⊎ (Unit {0} ⊎ (ℕ × Unit {0})))
  copy_words = choice (codes "copy") copied idle_words

  after_idle : (word : List ℕ) → bytes_eq (codes "idle") word ≡ false → bytes_eq (codes "no") word ≡ false → (y : Unit {0} ⊎ (ℕ × Unit {0})) → bytes_eq (idle_words.write y).0 word ≡ false
  after_idle word e f = apart_choice (codes "idle") word end no_words e (apart_after (codes "no") word (alone (whole 1 v.last_no)) f)

  copy_is : IsWorded copy_words
  copy_is = choice_is (codes "copy") copied idle_words (member_is _ _ version_is (member_is _ _ version_is (member_is _ _ rows_is end_is))) idle_is (after_idle (codes "copy") refl refl)

  after_copy : (word : List ℕ) → bytes_eq (codes "copy") word ≡ false → bytes_eq (codes "idle") word ≡ false → bytes_eq (codes "no") word ≡ false
      → (y : (ℕ × (ℕ × (List (ObjId × Object) × Unit {0}))) ⊎ (Unit {0} ⊎ (ℕ × Unit {0}))) → bytes_eq (copy_words.write y).0 word ≡ false
  after_copy word d e f = apart_choice (codes "copy") word copied idle_words d (after_idle word e f)

  told_is : AreMembers (told v)
  told_is = member_is _ _ version_is (member_is _ _ (entry_is v h) end_is)

  abbrev entry_words : Worded ((ℕ × (Entry × Unit {0})) ⊎ ((ℕ × (ℕ × (List (ObjId × Object) × Unit {0}))) ⊎ (Unit {0} ⊎ (ℕ × Unit {0}))))
  entry_words = choice (codes "entry") (told v) copy_words

  entry_words_are : IsWorded entry_words
  entry_words_are = choice_is (codes "entry") (told v) copy_words told_is copy_is (after_copy (codes "entry") refl refl refl)

  abbrev ask_words : Worded ((ℕ × (ℕ × Unit {0})) ⊎ ((ℕ × (Entry × Unit {0})) ⊎ ((ℕ × (ℕ × (List (ObjId × Object) × Unit {0}))) ⊎ (Unit {0} ⊎ (ℕ × Unit {0})))))
  ask_words = choice (codes "ask") asked entry_words

  ask_is : IsWorded ask_words
  ask_is =
      choice_is (codes "ask") asked entry_words (member_is _ _ client_is (member_is _ _ version_is end_is)) entry_words_are
      (apart_choice (codes "entry") (codes "ask") (told v) copy_words refl (after_copy (codes "ask") refl refl refl))

  abbrev edit_words : Worded ((ℕ × (ℕ × (Change × Unit {0}))) ⊎ ((ℕ × (ℕ × Unit {0})) ⊎ ((ℕ × (Entry × Unit {0})) ⊎ ((ℕ × (ℕ × (List (ObjId × Object) × Unit {0}))) ⊎ (Unit {0} ⊎ (ℕ × Unit {0}))))))
  edit_words = choice (codes "edit") sent ask_words

  edit_is : IsWorded edit_words
  edit_is =
      choice_is (codes "edit") sent ask_words (member_is _ _ client_is (member_is _ _ version_is (member_is _ _ change_is end_is))) ask_is
      (apart_choice (codes "ask") (codes "edit") asked entry_words refl (apart_choice (codes "entry") (codes "edit") (told v) copy_words refl (after_copy (codes "edit") refl refl refl)))

  -- words after those of a Welcome and a Join
  after_edit : (word : List ℕ) → bytes_eq (codes "edit") word ≡ false → bytes_eq (codes "ask") word ≡ false → bytes_eq (codes "entry") word ≡ false → bytes_eq (codes "copy") word ≡ false → bytes_eq (codes "idle") word ≡ false
      → bytes_eq (codes "no") word ≡ false → (y : (ℕ × (ℕ × (Change × Unit {0}))) ⊎ ((ℕ × (ℕ × Unit {0})) ⊎ ((ℕ × (Entry × Unit {0})) ⊎ ((ℕ × (ℕ × (List (ObjId × Object) × Unit {0}))) ⊎ (Unit {0} ⊎ (ℕ × Unit {0}))))))
      → bytes_eq (edit_words.write y).0 word ≡ false
  after_edit word a b c d e f =
      apart_choice (codes "edit") word sent ask_words a (apart_choice (codes "ask") word asked entry_words b (apart_choice (codes "entry") word (told v) copy_words c (after_copy word d e f)))

  abbrev welcome_words : Worded ((ℕ × Unit {0}) ⊎ ((ℕ × (ℕ × (Change × Unit {0}))) ⊎ ((ℕ × (ℕ × Unit {0})) ⊎ ((ℕ × (Entry × Unit {0})) ⊎ ((ℕ × (ℕ × (List (ObjId × Object) × Unit {0}))) ⊎ (Unit {0} ⊎ (ℕ × Unit {0})))))))
  welcome_words = choice (codes "welcome") (alone client_form) edit_words

  welcome_is : IsWorded welcome_words
  welcome_is = choice_is (codes "welcome") (alone client_form) edit_words (member_is _ _ client_is end_is) edit_is (after_edit (codes "welcome") refl refl refl refl refl refl)

  words_are : IsWorded (message_words v)
  words_are =
      choice_is (codes "join") (alone (number_form v)) welcome_words (member_is _ _ (number_is v) end_is) welcome_is
      (apart_choice (codes "welcome") (codes "join") (alone client_form) edit_words refl (after_edit (codes "join") refl refl refl refl refl refl))

  pub parts_are : IsCodec (parts_form v)
  parts_are = array_is _ (headed_is (message_words v) words_are)
