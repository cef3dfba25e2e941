use Rattle.std.proofs.Common.{◌≡◌, ◌+◌, ◌∙◌, sym, ap, Some}
use Rattle.std.specs.Prelude.{slice_get}
use Rattle.std.specs.Option.{option_copied}
use Rattle.canvas_model.specs.Client.{Client}
use Rattle.canvas_model.specs.Log.{Entry}
use Rattle.canvas_judge.specs.Seen.{seen_what}
use Rattle.canvas_client.proofs.Keeping.{next_is}
use Rattle.canvas_client.proofs.client.Client.is_next.Goals as goal

pub returns-then-entry-self : goal.returns-then-entry-self
returns-then-entry-self g c =
    let first : slice_get c.args.self.now.waiting 0 ≡ Some c.in-Some.first.now =
    ap (λ (x : Client). slice_get x.waiting 0) (sym c.self.view_is) ∙ sym c.get.ensures ∙ ap option_copied c.in-Some.is in
    next_is c.args.self.now c.args.entry.now c.in-Edit.change c.in-Some.first.now c.same.result
    (ap (λ (e : Entry). e.what) (sym c.entry.view_is) ∙ ap seen_what c.in-Edit.is) first
    (ap (λ (e : Entry). e.seq) (sym c.entry.view_is) ∙ c.if-entry-self.true ∙ ap (λ (x : Client). x.acknowledged + 1) c.self.view_is) c.same.ensures
