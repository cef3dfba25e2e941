-- Checkpoints have a form in each version.
use Rattle.std.proofs.Common.{codes, refl}
use Rattle.canvas_codec.specs.Shape.{shape}
use Rattle.canvas_codec.specs.Codec.{IsCodec, AreMembers, IsWorded}
use Rattle.canvas_codec.specs.Parts.{after}
use Rattle.canvas_codec.proofs.Forms.{via_is, end_is, member_is, each_is, array_is, headed_is, after_is}
use Rattle.canvas_forms.specs.Version.{Version}
use Rattle.canvas_forms.proofs.Forms.{client_is, version_is}
use Rattle.canvas_forms.proofs.RowForms.{rows_is}
use Rattle.canvas_wire.specs.Checkpoints.{counts_form, clients_form, saved, checkpoint_form}
use Rattle.canvas_wire.proofs.MessageForms.{number_is}

counts_is : IsCodec counts_form
counts_is = via_is shape _ _ _ (array_is _ (member_is _ _ version_is (member_is _ _ client_is end_is))) (λ counts. refl) (λ p s. refl)

pub clients_is : IsCodec clients_form
clients_is = array_is _ (each_is counts_form counts_is)

saved_is : (v : Version) → AreMembers (saved v)
saved_is v = member_is _ _ (number_is v) (member_is _ _ version_is (member_is _ _ clients_is (member_is _ _ rows_is end_is)))

words_are : (v : Version) → IsWorded (after (codes "checkpoint") (saved v))
words_are v = after_is (codes "checkpoint") (saved v) (saved_is v)

pub checkpoint_is : (v : Version) → IsCodec (checkpoint_form v)
checkpoint_is v = array_is _ (headed_is (after (codes "checkpoint") (saved v)) (words_are v))
