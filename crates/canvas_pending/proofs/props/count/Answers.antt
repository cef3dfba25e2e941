use Rattle.std.proofs.Common.{◌≡◌, ◌∙◌, ℕ, Some, None, rules, sym, ap}
use Rattle.std.specs.List.{slice_get}
use Rattle.std.specs.Option.{option_copied, unwrap_or}
use Rattle.std.specs.Ordering.{is_lt}
use Rattle.std.specs.declared.cmp.Ordering.TheVariants.{Equal}
use Rattle.canvas_blocks.specs.Blocks.{IsEdge}
use Rattle.canvas_model.specs.declared.ObjId.{ObjId}
use Rattle.canvas_model.specs.Document.{Name}
use Rattle.canvas_pending.specs.Tallied.{prop_cmp}
use Rattle.canvas_pending.proofs.Edges.{found_here, gap_at_end, gap_before}
use Rattle.canvas_pending.proofs.PropTallies.{props_total}
use Rattle.canvas_pending.proofs.Tests.{told_apart, told_equal}
use Rattle.canvas_pending.proofs.props.count.Goals as goal

pub returns-then-is_eq : goal.returns-then-is_eq
returns-then-is_eq g c =
    let at = c.after_edge-tally.ensures.1 in
    let edge : IsEdge (λ (e : (ObjId × Name) × ℕ) b. b ≡ is_lt (prop_cmp e.0 (c.args.id, c.args.name.now))) c.args.props.now c.after_edge-tally.ensures.0 = record {
      within = at.within;
      before = λ d lt. let called = at.before d lt in search rules;
      after = λ d lt. let called = at.after d lt in search rules;
    } in
    let here : slice_get c.args.props.now c.after_edge-tally.ensures.0 ≡ Some c.in-Some.tally.now = sym c.after_edge-tally.ensures.2 ∙ ap option_copied c.in-Some.is in
    let tied : prop_cmp c.in-Some.tally.now.0 (c.args.id, c.args.name.now) ≡ Equal = sym c.compare.ensures ∙ told_equal c.compare.result c.if-is_eq.ensures in
    sym (ap (λ o. unwrap_or o 0) (found_here props_total c.args.props.now c.requires (c.args.id, c.args.name.now) c.after_edge-tally.ensures.0 edge c.in-Some.tally.now here tied))

pub returns-else-is_eq : goal.returns-else-is_eq
returns-else-is_eq g c =
    let at = c.after_edge-tally.ensures.1 in
    let edge : IsEdge (λ (e : (ObjId × Name) × ℕ) b. b ≡ is_lt (prop_cmp e.0 (c.args.id, c.args.name.now))) c.args.props.now c.after_edge-tally.ensures.0 = record {
      within = at.within;
      before = λ d lt. let called = at.before d lt in search rules;
      after = λ d lt. let called = at.after d lt in search rules;
    } in
    let here : slice_get c.args.props.now c.after_edge-tally.ensures.0 ≡ Some c.in-Some.tally.now = sym c.after_edge-tally.ensures.2 ∙ ap option_copied c.in-Some.is in
    let gap = gap_before props_total c.args.props.now c.requires (c.args.id, c.args.name.now) c.after_edge-tally.ensures.0 edge c.in-Some.tally.now here
    (λ tied. told_apart c.compare.result c.if-is_eq.ensures (c.compare.ensures ∙ tied)) in
    sym (ap (λ o. unwrap_or o 0) gap.absent)

pub returns-in-None : goal.returns-in-None
returns-in-None g c =
    let at = c.after_edge-tally.ensures.1 in
    let edge : IsEdge (λ (e : (ObjId × Name) × ℕ) b. b ≡ is_lt (prop_cmp e.0 (c.args.id, c.args.name.now))) c.args.props.now c.after_edge-tally.ensures.0 = record {
      within = at.within;
      before = λ d lt. let called = at.before d lt in search rules;
      after = λ d lt. let called = at.after d lt in search rules;
    } in
    let past : None ≡ slice_get c.args.props.now c.after_edge-tally.ensures.0 = sym (sym c.after_edge-tally.ensures.2 ∙ ap option_copied c.in-None.is) in
    let gap = gap_at_end props_total c.args.props.now c.requires (c.args.id, c.args.name.now) c.after_edge-tally.ensures.0 edge past in
    sym (ap (λ o. unwrap_or o 0) gap.absent)
