use Rattle.std.proofs.Common.{sym, subst, ◌∙◌}
use Rattle.serde_json.specs.View.{view}
use Rattle.canvas_wire.specs.Text.{IsRowError}
use Rattle.app_admin.proofs.Refusing.{parts_fault, range_fault, depth_fault}
use Rattle.app_admin.proofs.reading_rows.text_fault.Goals as goal

pub returns-in-NotAMessage : goal.returns-in-NotAMessage
returns-in-NotAMessage c =
    parts_fault c.args.last c.args.text.now (view c.in-Ok.json) c.in-Ok.ensures.ok (sym c.tree_fault.ensures ∙ c.in_default.is) (subst (IsRowError c.args.text.now) c.in-NotAMessage.is c.requires)

pub returns-in-OutOfRange : goal.returns-in-OutOfRange
returns-in-OutOfRange c =
    range_fault c.args.last c.args.text.now (view c.in-Ok.json) c.in-Ok.ensures.ok (sym c.tree_fault.ensures ∙ c.in_default.is) (subst (IsRowError c.args.text.now) c.in-OutOfRange.is c.requires)

pub returns-in-TooDeep : goal.returns-in-TooDeep
returns-in-TooDeep c =
    depth_fault c.args.last c.args.text.now (view c.in-Ok.json) c.in-Ok.ensures.ok (sym c.tree_fault.ensures ∙ c.in_default.is) (subst (IsRowError c.args.text.now) c.in-TooDeep.is c.requires)
