use Rattle.std.proofs.Common.{rules, arith, ap, sym, ◌∙◌}
use Rattle.canvas_model.specs.Value.{values_of, list}
use Rattle.canvas_value.specs.Sizes.{value_size, values_size}
use Rattle.canvas_value.proofs.Copied.{same_more}
use Rattle.canvas_value.proofs.Members.{members_below, member_within, lists_alike}
use Rattle.canvas_value.proofs.+alike.Goals as goal

pub alike-fact_in-eq : goal.alike-fact_in-eq
alike-fact_in-eq g t c = c.as_str.utf8

pub alike-fact_in-eq-in-Text-Text : goal.alike-fact_in-eq-in-Text-Text
alike-fact_in-eq-in-Text-Text g t c = c.as_str-in-Text-Text.utf8

pub alike-alike_items-requires : goal.alike-alike_items-requires
alike-alike_items-requires g t c κs within =
    let lent = ap (λ vs. values_size (values_of vs)) c.deref.ensures.value in
    (omega (arith, lent, members_below c.value.inside.variant c.in-List-List.items c.args.value.now c.value.view_is c.in-List-List.is-0), within)

pub alike-returns-in-List-List : goal.alike-returns-in-List-List
alike-returns-in-List-List g t c =
    let one = c.deref.ensures.value in
    let other = c.deref-in-List-List.ensures.value in (
      λ yes. search (rules, ap (λ ps. list (values_of ps)) (sym one ∙ c.alike_items.ensures.0 yes ∙ other)),
      λ same. c.alike_items.ensures.1 (one ∙ lists_alike c.value.inside.variant c.in-List-List.items c.other.inside.variant c.in-List-List.others c.args.value.now c.args.other.now c.value.view_is c.in-List-List.is-0 c.other.view_is c.in-List-List.is-1 same ∙ sym other),
    )

pub alike_items-alike-requires : goal.alike_items-alike-requires
alike_items-alike-requires g t c κs within =
    let small = member_within c.args.items.now c.loop-at.at c.index-items-at.result (omega arith) in
    let same = ap value_size c.index-items-at.is in
    (omega (arith, small, same), within)

pub alike_items-loop-at-preserved : goal.alike_items-loop-at-preserved
alike_items-loop-at-preserved g t c = (
  same_more c.args.items.now c.args.others.now c.loop-at.at c.index-items-at.result c.index-others-at.result (omega arith) (omega (arith, c.loop-at.invariant.1)) c.index-items-at.is c.index-others-at.is (c.alike.ensures.0 c.if-not-alike.false) c.loop-at.invariant.0,
  c.loop-at.invariant.1,
)
