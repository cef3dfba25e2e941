use Rattle.std.proofs.Common.{ap, sym, subst, refl, ◌∙◌}
use Rattle.std.specs.Prelude.{◌↔◌, IsTrue}
use Rattle.std.specs.List.{list_any}
use Rattle.std.proofs.lemmas.Result.{IfOk-weaker}
use Rattle.canvas_model.specs.Ids.{root}
use Rattle.canvas_model.specs.Standing.{AreOwn}
use Rattle.canvas_model.specs.View.{creates_it}
use Rattle.canvas_client.specs.Parts.{seen_parts}
use Rattle.canvas_client.proofs.Owning.{kept_by, kept_without}
use Rattle.canvas_client.proofs.parts.are_kept.Goals as goal

pub returns-in-Some : goal.returns-in-Some
returns-in-Some g c =
    IfOk-weaker c.are_own.result _ _ (λ own is.
    kept_by (seen_parts c.args.parts.now) c.in-Some.client own c.in-Some.is (c.are_few.ensures.0 c.if-not-are_few.false) (ap (list_any (creates_it root)) (sym c.deref.ensures.value) ∙ sym c.creates_root.ensures ∙ c.if-creates_root.false)
    (subst (λ l. IsTrue own ↔ AreOwn c.in-Some.client c.args.parts.now.counter l) c.deref-in-Some.ensures.value is)) c.are_own.ensures

pub returns-in-None : goal.returns-in-None
returns-in-None g c = (
  λ t. kept_without (seen_parts c.args.parts.now) c.in-None.is (c.are_few.ensures.0 c.if-not-are_few.false) (c.is_idle.ensures.0 c.if-not-is_idle.false)
      (ap (list_any (creates_it root)) (sym c.deref.ensures.value) ∙ sym c.creates_root.ensures ∙ c.if-creates_root.false),
  λ kept. refl,
)
