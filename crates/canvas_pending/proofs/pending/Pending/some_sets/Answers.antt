use Rattle.std.proofs.Common.{◌≡◌, ◌∙◌, sym, ap, take}
use Rattle.std.specs.Prelude.{◌&&◌}
use Rattle.std.specs.List.{count_by, list_any}
use Rattle.canvas_model.specs.View.{sets_it}
use Rattle.canvas_pending.proofs.Waiting.{any_staying}
use Rattle.canvas_pending.proofs.pending.Pending.some_sets.Goals as goal
use Rattle.canvas_pending.proofs.pending.Pending.some_sets.Goals.{then-own, else-own}

pub returns : goal.returns
returns g c =
    let first : c.if-own.first ≡ (c.args.own && list_any (sets_it c.args.id c.args.name.now) (take 1 c.args.self.now)) = elim c.if-own.branch [
      | then-own w ↦ w.first-is ∙ w.first_sets-first.ensures ∙ ap (λ b. b && list_any (sets_it c.args.id c.args.name.now) (take 1 c.args.self.now)) (sym w.if-own.true)
      | else-own w ↦ w.first-is ∙ w.if-own.false ∙ ap (λ b. b && list_any (sets_it c.args.id c.args.name.now) (take 1 c.args.self.now)) (sym w.if-own.false)
    ] in
    let counted : c.count.result ≡ count_by (sets_it c.args.id c.args.name.now) c.args.self.now =
    c.count.ensures ∙ c.self.invariant.sets (c.args.id, c.args.name.now) ∙ ap (count_by (sets_it c.args.id c.args.name.now)) c.self.view_is in
    any_staying (sets_it c.args.id c.args.name.now) c.args.own c.if-own.first c.is_more.result c.count.result c.args.self.now first counted c.is_more.ensures
