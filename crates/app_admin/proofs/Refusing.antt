-- JSON that is no row.
use Rattle.std.proofs.Common.{◌≡◌, List, ℕ, None, inl, inr, sym, subst, ◌∙◌}
use Rattle.std.proofs.lemmas.Option.{same_Some}
use Rattle.serde_json.specs.Data.{Data}
use Rattle.canvas_model.specs.declared.ObjId.{ObjId}
use Rattle.std.specs.Prelude.{Option}
use Rattle.canvas_wire.specs.Faults.{IsJson, IsOut}
use Rattle.canvas_wire.specs.Text.{IsRowError, IsRowShape, IsRowJson}
use Rattle.canvas_wire.specs.declared.fault.WireError.TheVariants as wire
use Rattle.app_admin.specs.RowFaults.{IsTextFault, tree_fault}
use Rattle.app_faults.specs.declared.row_fault.RowFault.TheVariants as why

pub parts_fault : (last : Option ObjId) (text : List ℕ) (d : Data) → IsJson text d → tree_fault last d ≡ None → IsRowError text wire.NotAMessage → IsTextFault last text why.Parts
parts_fault last text d json none (e, other, not) = inr (inl (d, json, inr (none, λ shaped. not (subst IsRowShape (same_Some d e (sym json.1 ∙ other.1)) shaped))))

pub range_fault : (last : Option ObjId) (text : List ℕ) (d : Data) → IsJson text d → tree_fault last d ≡ None → IsRowError text wire.OutOfRange → IsTextFault last text why.Range
range_fault last text d json none (e, other, out) = inr (inl (d, json, inr (none, subst (IsOut IsRowShape IsRowJson) (same_Some e d (sym other.1 ∙ json.1)) out)))

pub depth_fault : (last : Option ObjId) (text : List ℕ) (d : Data) → IsJson text d → tree_fault last d ≡ None → IsRowError text wire.TooDeep → IsTextFault last text why.TooDeepValue
depth_fault last text d json none (e, row, other, is, deep) = inr (inl (d, json, inr (none, (row, subst (λ (t : Data). IsRowJson t row) (same_Some e d (sym other.1 ∙ json.1)) is, deep))))
