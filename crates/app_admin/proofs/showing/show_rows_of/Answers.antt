use Rattle.std.proofs.Common.{◌∙◌, List, ℕ, ap, subst}
use Rattle.std.specs.FinMap as map
use Rattle.std.specs.Io.KnownBytes.{Appends}
use Rattle.canvas_model.specs.Document.{Doc}
use Rattle.app_admin.specs.Texts.{rows_text}
use Rattle.app_admin.proofs.showing.show_rows_of.Goals as goal

pub returns-clause-found : goal.returns-clause-found
returns-clause-found g c honest = (
  (c.in_ok-state.state, c.in_ok-state._version),
  c.in_ok-state.ensures.found honest,
  subst (λ (t : List ℕ). Appends (g.W.Write.contents c.args.output.now) (g.W.Write.contents c.write_out.new.output) t)
      (c.deref.ensures.value ∙ c.in_ok-text.ensures ∙ ap (λ (d : Doc). rows_text c.args.layout (map.entries d)) c.doc.ensures.doc)
      c.in_ok-write_out.ensures.bytes,
)

pub returns-clause-form : goal.returns-clause-form
returns-clause-form g c = (
  c.doc.result.now,
  subst (λ (t : List ℕ). Appends (g.W.Write.contents c.args.output.now) (g.W.Write.contents c.write_out.new.output) t)
      (c.deref.ensures.value ∙ c.in_ok-text.ensures)
      c.in_ok-write_out.ensures.bytes,
)
