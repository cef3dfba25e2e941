-- Each word has a form, and no message begins with it.
use Rattle.std.proofs.Common.{◌≡◌, ℕ, List, true, false, Option, unwrap_or, bytes_eq, codes, refl, ap, sym, subst, ◌∙◌}
use Rattle.serde_json.specs.Data.{Data, array, string, Items, item}
use Rattle.canvas_model.specs.Messages.{Message, Welcome, Idle, No}
use Rattle.canvas_model.specs.Messages as messages
use Rattle.canvas_codec.specs.Shape.{shape}
use Rattle.canvas_codec.specs.Codec.{IsCodec}
use Rattle.canvas_codec.specs.Parts.{member, end}
use Rattle.canvas_codec.proofs.Forms.{first, end_is, member_is, array_is, headed_is, after_is}
use Rattle.canvas_forms.specs.Ids.{client_form}
use Rattle.canvas_forms.specs.JsonTree.{worded}
use Rattle.canvas_forms.specs.Version.{version_two}
use Rattle.canvas_forms.proofs.Forms.{client_is, version_is}
use Rattle.canvas_wire.specs.Faults.{IsJson}
use Rattle.canvas_wire.specs.Messages.{asked, message_json}
use Rattle.canvas_wire.specs.Text.{SpellsMessage}
use Rattle.canvas_live.specs.Presence.{SpellsHere, any_form, here_form}
use Rattle.canvas_live.specs.Word.{SpellsLive, live_form, parts_of}
use Rattle.canvas_live.specs.declared.place.Place.{Place}

pub live_is : IsCodec live_form
live_is = array_is _ (headed_is _ (after_is (codes "live") asked (member_is _ _ client_is (member_is _ _ version_is end_is))))

any_is : IsCodec any_form
any_is = record {
  back = λ d s e. refl;
  exact = λ d x e. sym (first e);
  in_range = λ d x e. refl;
  in_kind = λ d x b e. refl;
  same = λ d x b e. ap shape (sym (first e));
  shaped = λ d x s e. refl;
}

pub here_is : IsCodec here_form
here_is = array_is _ (headed_is _ (after_is (codes "here") (member client_form (member any_form end)) (member_is _ _ client_is (member_is _ _ any_is end_is))))

-- the bytes have one JSON tree
one_tree : (bytes : List ℕ) (d e : Data) → IsJson bytes d → IsJson bytes e → d ≡ e
one_tree bytes d e h k = ap (λ (o : Option Data). unwrap_or o d) (sym h.1 ∙ k.1)

-- JSON trees that begin with two words are two
apart : (v w : List ℕ) (ds es : Items) (d : Data) → bytes_eq w v ≡ false → bytes_eq v v ≡ true → array (item (string w) ds) ≡ d → array (item (string v) es) ≡ d → false ≡ true
apart v w ds es d e same h k = sym e ∙ ap (λ (u : List ℕ). bytes_eq u v) (first (ap worded h ∙ sym (ap worded k))) ∙ same

-- no JSON tree is that of a message and of the word
not_live : (d : Data) (m : Message) (p : Place) → message_json version_two m ≡ d → live_form.write (parts_of p) ≡ d → false ≡ true
not_live d messages.Join p h k = apart (codes "live") (codes "join") _ _ d refl refl h k
not_live d (Welcome c) p h k = apart (codes "live") (codes "welcome") _ _ d refl refl h k
not_live d (messages.Edit c s e) p h k = apart (codes "live") (codes "edit") _ _ d refl refl h k
not_live d (messages.Ask c v) p h k = apart (codes "live") (codes "ask") _ _ d refl refl h k
not_live d (messages.Entry v e) p h k = apart (codes "live") (codes "entry") _ _ d refl refl h k
not_live d (messages.Copy v n o) p h k = apart (codes "live") (codes "copy") _ _ d refl refl h k
not_live d Idle p h k = apart (codes "live") (codes "idle") _ _ d refl refl h k
not_live d (No r) p h k = apart (codes "live") (codes "no") _ _ d refl refl h k

not_here : (d : Data) (m : Message) (client : ℕ) (value : Data) → message_json version_two m ≡ d → here_form.write (client, (value, tt)) ≡ d → false ≡ true
not_here d messages.Join client value h k = apart (codes "here") (codes "join") _ _ d refl refl h k
not_here d (Welcome c) client value h k = apart (codes "here") (codes "welcome") _ _ d refl refl h k
not_here d (messages.Edit c s e) client value h k = apart (codes "here") (codes "edit") _ _ d refl refl h k
not_here d (messages.Ask c v) client value h k = apart (codes "here") (codes "ask") _ _ d refl refl h k
not_here d (messages.Entry v e) client value h k = apart (codes "here") (codes "entry") _ _ d refl refl h k
not_here d (messages.Copy v n o) client value h k = apart (codes "here") (codes "copy") _ _ d refl refl h k
not_here d Idle client value h k = apart (codes "here") (codes "idle") _ _ d refl refl h k
not_here d (No r) client value h k = apart (codes "here") (codes "no") _ _ d refl refl h k

pub no_message : (bytes : List ℕ) (p : Place) (m : Message) → SpellsLive bytes p → SpellsMessage bytes m → ⊥
no_message bytes p m live message =
    absurd (
    let wrote = subst (λ (d : Data). live_form.write (parts_of p) ≡ d) (one_tree bytes live.0 message.0 live.1 message.1) live.2.2
    in let f : false ≡ true = not_live message.0 m p message.2.0.1.2 wrote
    in cc
    )

pub no_message_here : (bytes : List ℕ) (client : ℕ) (value : Data) (m : Message) → SpellsHere bytes client value → SpellsMessage bytes m → ⊥
no_message_here bytes client value m here message =
    absurd (
    let wrote = subst (λ (d : Data). here_form.write (client, (value, tt)) ≡ d) (one_tree bytes here.0 message.0 here.1 message.1) here.2.2
    in let f : false ≡ true = not_here message.0 m client value message.2.0.1.2 wrote
    in cc
    )

pub no_live_here : (bytes : List ℕ) (client : ℕ) (value : Data) (p : Place) → SpellsHere bytes client value → SpellsLive bytes p → ⊥
no_live_here bytes client value p here live =
    absurd (
    let wrote = subst (λ (d : Data). here_form.write (client, (value, tt)) ≡ d) (one_tree bytes here.0 live.0 here.1 live.1) here.2.2
    in let f : false ≡ true = apart (codes "here") (codes "live") _ _ live.0 refl refl live.2.2 wrote
    in cc
    )
