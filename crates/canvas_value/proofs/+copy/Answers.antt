use Rattle.std.proofs.Common.{rules, arith, ap}
use Rattle.canvas_model.specs.Value.{values_of}
use Rattle.canvas_value.specs.Sizes.{values_size}
use Rattle.canvas_value.proofs.Members.{members_below, member_within}
use Rattle.canvas_value.proofs.+copy.Goals as goal

pub copy-from_str-requires-text-s : goal.copy-from_str-requires-text-s
copy-from_str-requires-text-s g t c κs within = c.as_str.utf8

pub copy-copy_items-requires : goal.copy-copy_items-requires
copy-copy_items-requires g t c κs within =
    let lent = ap (λ vs. values_size (values_of vs)) c.deref.ensures.value in
    (omega (arith, lent, members_below c.value.inside.variant c.in-List.items c.args.value.now c.value.view_is c.in-List.is), within)

pub copy_items-copy-requires : goal.copy_items-copy-requires
copy_items-copy-requires g t c κs within = search (rules, member_within c.args.items.now c.loop-item.item-index c.item-item.result c.loop-item-test.true)
