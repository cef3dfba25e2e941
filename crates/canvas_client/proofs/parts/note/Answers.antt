use Rattle.std.proofs.Common.{sym, ap, ◌∙◌}
use Rattle.canvas_doc.specs.Seen.{seen}
use Rattle.canvas_client.proofs.Owning.{note_own, note_tells}
use Rattle.canvas_client.proofs.parts.note.Goals as goal

pub returns-in_ok-is_new-in-Create-clause-own : goal.returns-in_ok-is_new-in-Create-clause-own
returns-in_ok-is_new-in-Create-clause-own g c =
    note_own c.args.client c.args.counter c.args.noted.now c.args.change.now c.in-Create.id c.in-Create.kind c.in-Create.place c.in_ok-is_new-in-Create.is_new (sym c.variant.ensures.variant ∙ ap seen c.in-Create.is) c.in_ok-is_new-in-Create.ensures.added

pub returns-in_ok-is_new-in-Create-clause-noted : goal.returns-in_ok-is_new-in-Create-clause-noted
returns-in_ok-is_new-in-Create-clause-noted g c =
    note_tells c.args.noted.now c.insert.new.self c.args.change.now c.in-Create.id c.in-Create.kind c.in-Create.place (sym c.variant.ensures.variant ∙ ap seen c.in-Create.is) c.in_ok-is_new-in-Create.ensures.updates
