use Rattle.std.proofs.Common.{◌≤◌, Some, ap, sym, subst, ◌∙◌}
use Rattle.serde_json.specs.Data as D
use Rattle.serde_json.specs.Written.{has_float, compact_text}
use Rattle.canvas_judge.specs.Seen.{seen_message}
use Rattle.canvas_forms.specs.Version.{version_two}
use Rattle.canvas_wire.proofs.Texts.{message_no_float, message_nests}
use Rattle.canvas_wire.proofs.messages.encode_tree.Goals as goal

pub returns : goal.returns
returns g c =
    let same = c.in_ok-write_message.ensures in
    let message = seen_message c.args.message.now in
    record {
      text = c.in_ok-bytes.ensures.text (ap has_float same ∙ message_no_float version_two message) ∙ ap compact_text same;
      utf8 = c.in_ok-bytes.ensures.utf8;
      sound = c.sound_message.ensures.sound;
      orderly = c.sound_message.ensures.orderly;
      reads_back = λ small. c.in_ok-bytes.ensures.reads_back (subst (λ d. D.depth d ≤ 127) (sym same) (message_nests version_two message small)) ∙ ap Some same;
    }
