use Rattle.std.proofs.Common.{Some, ap, sym, ◌∙◌}
use Rattle.std.specs.FinMap as map
use Rattle.canvas_embed.proofs.objects.object_text.Goals as goal

pub returns-clause-some : goal.returns-clause-some
returns-clause-some c = record {
  object = c.in_ok-copy.copy;
  shown = ap (λ d. map.get d c.args.id) (sym c.view.ensures.view) ∙ sym c.in-Some.ensures.object ∙ ap Some (sym c.in_ok-copy.ensures);
  text = c.in_ok-text.ensures;
}
