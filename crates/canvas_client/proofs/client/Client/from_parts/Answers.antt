use Rattle.std.proofs.Common.{true≢false, sym, ◌∙◌}
use Rattle.canvas_client.specs.Parts.{seen_parts}
use Rattle.canvas_client.proofs.Owning.{kept_as}
use Rattle.canvas_client.proofs.client.Client.from_parts.Goals as goal

pub returns-then-not-branch-clause-none : goal.returns-then-not-branch-clause-none
returns-then-not-branch-clause-none g c = λ kept. true≢false (sym (c.in_ok-are_kept.ensures.1 kept) ∙ c.if-not-branch.true)

pub invariant_of-result : goal.invariant_of-result
invariant_of-result g c = kept_as (seen_parts c.args.parts) c.of.result.waiting c.of.result.shown.doc (c.of.ensures.waiting ∙ c.in_ok-pending.ensures) c.of.ensures.view (c.in_ok-are_kept.ensures.0 c.if-not-branch.false)
