-- Ids, kinds, places, changes and outcomes have forms: what is written is read, and nothing else is.
use Rattle.std.proofs.Common.{◌≡◌, ℕ, ◌≤◌, ◌||◌, ◌⊎◌, inl, inr, pos, negsuc, List, Bool, true, false, true≢false, cond, bytes_eq, Option, Some, None, option_map, codes, refl, ap, sym, ◌∙◌, arith}
use Rattle.std.proofs.lemmas.Slice.Eq.{bytes_eq-Decides}
use Rattle.serde_json.specs.Data as D
use Rattle.serde_json.specs.Data.{Data, unsigned, negative, float, null, boolean, string, array, object, Items}
use Rattle.canvas_model.specs.declared.Kind.{Kind}
use Rattle.canvas_model.specs.declared.Kind.TheVariants.{Document, Page, Frame, Shape, Text}
use Rattle.canvas_model.specs.declared.Reason.{Reason}
use Rattle.canvas_model.specs.declared.Reason.TheVariants.{IsRoot, BadId, Gone, ParentGone, BadParent, Cycle, Crowded, TooDeep}
use Rattle.canvas_model.specs.declared.ObjId.{ObjId}
use Rattle.canvas_model.specs.Value.{Value}
use Rattle.canvas_model.specs.Document.{Place, Name}
use Rattle.canvas_model.specs.Text.{kind_word}
use Rattle.canvas_model.specs.Change.{Change, Create, Set, Move, Delete}
use Rattle.canvas_model.specs.Verdict.{Outcome, Joined, Created, WasSet, Moved, Removed, Refused, number_of}
use Rattle.canvas_codec.specs.Shape.{shape}
use Rattle.canvas_codec.specs.Codec.{IsCodec, AreMembers, IsWorded}
use Rattle.canvas_value.specs.Range.{is_within}
use Rattle.canvas_codec.specs.Parts.{whole_in, with_fit, choice, after, array_of, each, end, headed}
use Rattle.canvas_codec.specs.Json.{name_form}
use Rattle.canvas_codec.proofs.Forms.{first, second, whole_is, text_is, via_is, maybe_is, end_is, member_is, each_is, array_is, headed_is, after_is, choice_is, some_mapped}
use Rattle.canvas_codec.proofs.Laws.{value_is}
use Rattle.canvas_value.specs.Names.{is_name}
use Rattle.canvas_forms.specs.Version.{Version}
use Rattle.canvas_forms.specs.Numbered.{numbered}
use Rattle.canvas_forms.specs.Ids.{client_form, version_form, id_form}
use Rattle.canvas_forms.specs.Kinds.{is_word_of, is_kind, kind_named, kind_form}
use Rattle.canvas_forms.specs.Places.{is_position, pos_form, place_form}
use Rattle.canvas_forms.specs.Changes.{ChangeParts, created, set_to, cleared, moved, deleted, change_words, change_of, parts_of, change_form}
use Rattle.canvas_forms.specs.Outcomes as O
use Rattle.canvas_forms.specs.Outcomes.{reason_of, reason_form, alone, refused, OutcomeParts, outcome_words, outcome_of, outcome_form}

-- ---- what has a number

module _ {X : Type 0} (low high : ℕ) (thing : ℕ → X) (number : X → ℕ) (back : (x : X) → thing (number x) ≡ x) (only : (n : ℕ) → is_within low high n ≡ true → number (thing n) ≡ n) where
  number_read : (n : ℕ) (b : Bool) (x : X) → is_within low high n ≡ b → option_map (with_fit thing) (cond {A = Option (ℕ × Bool)} b (Some (n, true)) (Some (0, false))) ≡ Some (x, true) → (number x ≡ n) × (is_within low high n ≡ true)
  number_read n true x h e = (sym (ap number (first e)) ∙ only n h, h)
  number_read n false x h e = absurd (true≢false (sym (second e)))

  number_exact : (d : Data) (x : X) → (numbered low high thing number).read d ≡ Some (x, true) → (D.number (unsigned (number x)) ≡ d) × (is_within low high (number x) ≡ true)
  number_exact null x e = cc
  number_exact (boolean b) x e = cc
  number_exact (D.number (unsigned n)) x e =
      let h = number_read n (is_within low high n) x refl e in
      (ap (λ k. D.number (unsigned k)) h.0, ap (is_within low high) h.0 ∙ h.1)
  number_exact (D.number (negative (pos n))) x e = cc
  number_exact (D.number (negative (negsuc n))) x e = absurd (true≢false (sym (second e)))
  number_exact (D.number (float f)) x e = cc
  number_exact (string s) x e = cc
  number_exact (array ds) x e = cc
  number_exact (object ms) x e = cc

  number_same : (d : Data) (x : X) (b : Bool) → (numbered low high thing number).read d ≡ Some (x, b) → D.number (unsigned 0) ≡ shape d
  number_same null x b e = cc
  number_same (boolean c) x b e = cc
  number_same (D.number (unsigned n)) x b e = refl
  number_same (D.number (negative (pos n))) x b e = cc
  number_same (D.number (negative (negsuc n))) x b e = refl
  number_same (D.number (float f)) x b e = cc
  number_same (string s) x b e = cc
  number_same (array ds) x b e = cc
  number_same (object ms) x b e = cc

  pub numbered_is : IsCodec (numbered low high thing number)
  numbered_is = record {
    back = λ x s e. ap (option_map (with_fit thing)) ((whole_is low high).back (number x) refl e) ∙ ap (λ (y : X). Some (y, true)) (back x);
    exact = λ d x e. (number_exact d x e).0;
    in_range = λ d x e. (number_exact d x e).1;
    in_kind = λ d x b e. refl;
    same = number_same;
    shaped = λ d x s e. some_mapped (with_fit thing) (whole_in low high d) ∙ (whole_is low high).shaped d (number x) refl e;
  }

-- ---- ids, kinds and places

pub client_is : IsCodec client_form
client_is = whole_is 0 4294967295

pub version_is : IsCodec version_form
version_is = whole_is 0 4611686018427387904

pub id_is : IsCodec id_form
id_is = via_is shape _ _ _ (array_is _ (member_is _ _ client_is (member_is _ _ client_is end_is))) (λ id. refl) (λ p s. refl)

named_is : (a b c d f : Bool) (s : List ℕ)
    → (a ≡ true → s ≡ kind_word Document) → (b ≡ true → s ≡ kind_word Page) → (c ≡ true → s ≡ kind_word Frame) → (d ≡ true → s ≡ kind_word Shape) → (f ≡ true → s ≡ kind_word Text)
    → (a || (b || (c || (d || f)))) ≡ true → kind_word (cond a Document (cond b Page (cond c Frame (cond d Shape Text)))) ≡ s
named_is true b c d f s u v w x y e = sym (u refl)
named_is false true c d f s u v w x y e = sym (v refl)
named_is false false true d f s u v w x y e = sym (w refl)
named_is false false false true f s u v w x y e = sym (x refl)
named_is false false false false f s u v w x y e = sym (y e)

word_named : (s : List ℕ) → is_kind s ≡ true → kind_word (kind_named s) ≡ s
word_named s e =
    named_is (is_word_of Document s) (is_word_of Page s) (is_word_of Frame s) (is_word_of Shape s) (is_word_of Text s) s
    (bytes_eq-Decides s (kind_word Document)).0 (bytes_eq-Decides s (kind_word Page)).0 (bytes_eq-Decides s (kind_word Frame)).0 (bytes_eq-Decides s (kind_word Shape)).0 (bytes_eq-Decides s (kind_word Text)).0 e

named_word : (kind : Kind) → kind_named (kind_word kind) ≡ kind
named_word Document = refl
named_word Page = refl
named_word Frame = refl
named_word Shape = refl
named_word Text = refl

pub kind_is : IsCodec kind_form
kind_is = via_is shape _ _ _ (text_is is_kind) named_word word_named

pub pos_is : IsCodec pos_form
pos_is = text_is is_position

pub name_is : IsCodec name_form
name_is = text_is is_name

pub place_is : IsCodec place_form
place_is = via_is shape _ _ _ (array_is _ (member_is _ _ id_is (member_is _ _ pos_is end_is))) (λ place. refl) (λ p s. refl)

-- ---- changes

change_back : (change : Change) → change_of (parts_of change) ≡ change
change_back (Create id kind place) = refl
change_back (Set id name (Some value)) = refl
change_back (Set id name None) = refl
change_back (Move id place) = refl
change_back (Delete id) = refl

change_only : (p : ChangeParts) → parts_of (change_of p) ≡ p
change_only (inl p) = refl
change_only (inr (inl p)) = refl
change_only (inr (inr (inl p))) = refl
change_only (inr (inr (inr (inl p)))) = refl
change_only (inr (inr (inr (inr p)))) = refl

-- the words of a change are told apart
after_clear : (y : (ObjId × (Place × Unit {0})) ⊎ (ObjId × Unit {0})) → bytes_eq ((choice (codes "move") moved (after (codes "delete") deleted)).write y).0 (codes "clear") ≡ false
after_clear (inl p) = refl
after_clear (inr p) = refl

after_set : (y : (ObjId × (Name × Unit {0})) ⊎ ((ObjId × (Place × Unit {0})) ⊎ (ObjId × Unit {0}))) → bytes_eq ((choice (codes "clear") cleared (choice (codes "move") moved (after (codes "delete") deleted))).write y).0 (codes "set") ≡ false
after_set (inl p) = refl
after_set (inr (inl p)) = refl
after_set (inr (inr p)) = refl

after_create : (y : (ObjId × (Name × (Value × Unit {0}))) ⊎ ((ObjId × (Name × Unit {0})) ⊎ ((ObjId × (Place × Unit {0})) ⊎ (ObjId × Unit {0}))))
    → bytes_eq ((choice (codes "set") set_to (choice (codes "clear") cleared (choice (codes "move") moved (after (codes "delete") deleted)))).write y).0 (codes "create") ≡ false
after_create (inl p) = refl
after_create (inr (inl p)) = refl
after_create (inr (inr (inl p))) = refl
after_create (inr (inr (inr p))) = refl

move_is : IsWorded (choice (codes "move") moved (after (codes "delete") deleted))
move_is = choice_is (codes "move") moved (after (codes "delete") deleted) (member_is _ _ id_is (member_is _ _ place_is end_is)) (after_is (codes "delete") deleted (member_is _ _ id_is end_is)) (λ y. refl)

clear_is : IsWorded (choice (codes "clear") cleared (choice (codes "move") moved (after (codes "delete") deleted)))
clear_is = choice_is (codes "clear") cleared _ (member_is _ _ id_is (member_is _ _ name_is end_is)) move_is after_clear

set_is : IsWorded (choice (codes "set") set_to (choice (codes "clear") cleared (choice (codes "move") moved (after (codes "delete") deleted))))
set_is = choice_is (codes "set") set_to _ (member_is _ _ id_is (member_is _ _ name_is (member_is _ _ value_is end_is))) clear_is after_set

words_are : IsWorded change_words
words_are = choice_is (codes "create") created _ (member_is _ _ id_is (member_is _ _ kind_is (member_is _ _ place_is end_is))) set_is after_create

pub change_is : IsCodec change_form
change_is = via_is shape change_of parts_of (array_of (headed change_words)) (array_is _ (headed_is change_words words_are)) change_back (λ p s. change_only p)

-- ---- outcomes

reason_back : (reason : Reason) → reason_of (number_of reason) ≡ reason
reason_back IsRoot = refl
reason_back BadId = refl
reason_back Gone = refl
reason_back ParentGone = refl
reason_back BadParent = refl
reason_back Cycle = refl
reason_back Crowded = refl
reason_back TooDeep = refl

reason_only : (last : ℕ) → last ≤ 8 → (n : ℕ) → is_within 1 last n ≡ true → number_of (reason_of n) ≡ n
reason_only last h n e = grind (arith, h, e)

module _ (v : Version) (h : v.last_reason ≤ 8) where
  pub reason_is : IsCodec (reason_form v)
  reason_is = numbered_is 1 v.last_reason reason_of number_of reason_back (reason_only v.last_reason h)

outcome_back : (outcome : Outcome) → outcome_of (O.parts_of outcome) ≡ outcome
outcome_back (Joined client) = refl
outcome_back (Created place) = refl
outcome_back WasSet = refl
outcome_back (Moved place) = refl
outcome_back (Removed ids) = refl
outcome_back (Refused reason stands) = refl

outcome_only : (p : OutcomeParts) → O.parts_of (outcome_of p) ≡ p
outcome_only (inl p) = refl
outcome_only (inr (inl p)) = refl
outcome_only (inr (inr (inl p))) = refl
outcome_only (inr (inr (inr (inl p)))) = refl
outcome_only (inr (inr (inr (inr (inl p))))) = refl
outcome_only (inr (inr (inr (inr (inr p))))) = refl

module _ (v : Version) (h : v.last_reason ≤ 8) where
  refused_is : AreMembers (refused v)
  refused_is = member_is _ _ (reason_is v h) (member_is _ _ (maybe_is place_form place_is (λ place e. cc)) end_is)

  removed_is : IsWorded (choice (codes "removed") (alone (array_of (each id_form))) (after (codes "refused") (refused v)))
  removed_is = choice_is (codes "removed") _ _ (member_is _ _ (array_is _ (each_is _ id_is)) end_is) (after_is (codes "refused") _ refused_is) (λ y. refl)

  after_moved : (y : (List ObjId × Unit {0}) ⊎ (Reason × (Option Place × Unit {0}))) → bytes_eq ((choice (codes "removed") (alone (array_of (each id_form))) (after (codes "refused") (refused v))).write y).0 (codes "moved") ≡ false
  after_moved (inl p) = refl
  after_moved (inr p) = refl

  moved_is : IsWorded (choice (codes "moved") (alone place_form) (choice (codes "removed") (alone (array_of (each id_form))) (after (codes "refused") (refused v))))
  moved_is = choice_is (codes "moved") _ _ (member_is _ _ place_is end_is) removed_is after_moved

  after_wasset : (y : (Place × Unit {0}) ⊎ ((List ObjId × Unit {0}) ⊎ (Reason × (Option Place × Unit {0}))))
      → bytes_eq ((choice (codes "moved") (alone place_form) (choice (codes "removed") (alone (array_of (each id_form))) (after (codes "refused") (refused v)))).write y).0 (codes "wasset") ≡ false
  after_wasset (inl p) = refl
  after_wasset (inr (inl p)) = refl
  after_wasset (inr (inr p)) = refl

  wasset_is : IsWorded (choice (codes "wasset") end (choice (codes "moved") (alone place_form) (choice (codes "removed") (alone (array_of (each id_form))) (after (codes "refused") (refused v)))))
  wasset_is = choice_is (codes "wasset") _ _ end_is moved_is after_wasset

  after_created : (y : Unit {0} ⊎ ((Place × Unit {0}) ⊎ ((List ObjId × Unit {0}) ⊎ (Reason × (Option Place × Unit {0})))))
      → bytes_eq ((choice (codes "wasset") end (choice (codes "moved") (alone place_form) (choice (codes "removed") (alone (array_of (each id_form))) (after (codes "refused") (refused v))))).write y).0 (codes "created") ≡ false
  after_created (inl p) = refl
  after_created (inr (inl p)) = refl
  after_created (inr (inr (inl p))) = refl
  after_created (inr (inr (inr p))) = refl

  created_is : IsWorded (choice (codes "created") (alone place_form) (choice (codes "wasset") end (choice (codes "moved") (alone place_form) (choice (codes "removed") (alone (array_of (each id_form))) (after (codes "refused") (refused v))))))
  created_is = choice_is (codes "created") _ _ (member_is _ _ place_is end_is) wasset_is after_created

  after_joined : (y : (Place × Unit {0}) ⊎ (Unit {0} ⊎ ((Place × Unit {0}) ⊎ ((List ObjId × Unit {0}) ⊎ (Reason × (Option Place × Unit {0}))))))
      → bytes_eq ((choice (codes "created") (alone place_form) (choice (codes "wasset") end (choice (codes "moved") (alone place_form) (choice (codes "removed") (alone (array_of (each id_form))) (after (codes "refused") (refused v)))))).write y).0 (codes "joined") ≡ false
  after_joined (inl p) = refl
  after_joined (inr (inl p)) = refl
  after_joined (inr (inr (inl p))) = refl
  after_joined (inr (inr (inr (inl p)))) = refl
  after_joined (inr (inr (inr (inr p)))) = refl

  outcome_words_are : IsWorded (outcome_words v)
  outcome_words_are = choice_is (codes "joined") _ _ (member_is _ _ client_is end_is) created_is after_joined

  pub outcome_is : IsCodec (outcome_form v)
  outcome_is = via_is shape outcome_of O.parts_of (array_of (headed (outcome_words v))) (array_is _ (headed_is (outcome_words v) outcome_words_are)) outcome_back (λ p s. outcome_only p)
