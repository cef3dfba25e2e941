use Rattle.std.proofs.Common.{◌≡◌, ◌∙◌, sym, ap, take}
use Rattle.std.specs.Prelude.{◌&&◌}
use Rattle.std.specs.List.{count_by, list_any}
use Rattle.canvas_model.specs.View.{deletes_it}
use Rattle.canvas_pending.proofs.Waiting.{any_staying}
use Rattle.canvas_pending.proofs.pending.Pending.some_deletes.Goals as goal
use Rattle.canvas_pending.proofs.pending.Pending.some_deletes.Goals.{then-own, else-own}

pub returns : goal.returns
returns g c =
    let first : c.if-own.first ≡ (c.args.own && list_any (deletes_it c.args.id) (take 1 c.args.self.now)) = elim c.if-own.branch [
      | then-own w ↦ w.first-is ∙ w.first_deletes-first.ensures ∙ ap (λ b. b && list_any (deletes_it c.args.id) (take 1 c.args.self.now)) (sym w.if-own.true)
      | else-own w ↦ w.first-is ∙ w.if-own.false ∙ ap (λ b. b && list_any (deletes_it c.args.id) (take 1 c.args.self.now)) (sym w.if-own.false)
    ] in
    let counted : c.count.result ≡ count_by (deletes_it c.args.id) c.args.self.now = c.count.ensures ∙ c.self.invariant.deletes c.args.id ∙ ap (count_by (deletes_it c.args.id)) c.self.view_is in
    any_staying (deletes_it c.args.id) c.args.own c.if-own.first c.is_more.result c.count.result c.args.self.now first counted c.is_more.ensures
