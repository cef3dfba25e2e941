use Rattle.std.proofs.Common.{All, T, subst}
use Rattle.std.specs.FinMap as map
use Rattle.canvas_model.specs.Document.{name_cmp}
use Rattle.canvas_value.specs.Props.{IsProp}
use Rattle.canvas_doc.proofs.Known.{made_known}
use Rattle.canvas_doc.proofs.object.Object.from_parts.Goals as goal

pub returns-then-is_sorted-clause-entries : goal.returns-then-is_sorted-clause-entries
returns-then-is_sorted-clause-entries g c =
    map.entries-from_sorted name_cmp c.args.props.items (subst (λ ps. T (map.is_sorted name_cmp ps)) c.deref.ensures.value (c.is_sorted.ensures.0 c.if-is_sorted.true))

pub invariant_of-result : goal.invariant_of-result
invariant_of-result g c =
    let sorted = subst (λ ps. T (map.is_sorted name_cmp ps)) c.deref.ensures.value (c.is_sorted.ensures.0 c.if-is_sorted.true) in
    record {
      sorted = sorted;
      known = made_known _ _ _ sorted c.know_place.ensures (subst (All IsProp) c.deref-then-is_sorted.ensures.value c.every_prop.ensures);
    }
