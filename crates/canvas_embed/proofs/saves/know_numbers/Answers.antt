use Rattle.std.proofs.Common.{◌≡◌, true, subst, ◌≤◌, arith}
use Rattle.canvas_codec.specs.Parts.{maybe}
use Rattle.canvas_forms.specs.Ids.{client_form}
use Rattle.canvas_embed.specs.Saves.{any_form}
use Rattle.canvas_embed.proofs.Saved.{numbers_fit}
use Rattle.canvas_embed.proofs.saves.know_numbers.Goals as goal

pub returns : goal.returns
returns c =
    let few = c.view-view.ensures.kept.few in let low : c.args.client.now.acknowledged ≤ 4611686018427387904 = omega arith in
    numbers_fit c.args.client.now (subst (λ id. (maybe client_form).fits id ≡ true) c.id.ensures c.know_id.ensures) (subst (λ n. client_form.fits n ≡ true) c.counter.ensures c.know_client.ensures) (subst (λ n. any_form.fits n ≡ true) c.version.ensures c.know_version.ensures) low
