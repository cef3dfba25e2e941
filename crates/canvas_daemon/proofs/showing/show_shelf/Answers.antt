use Rattle.std.proofs.Common.{List, ℕ, subst}
use Rattle.std.specs.Io.KnownBytes.{Appends}
use Rattle.canvas_daemon.proofs.showing.show_shelf.Goals as goal

pub returns-clause-found : goal.returns-clause-found
returns-clause-found g c honest = (
  c.in_ok-text.text.items,
  c.in_ok-text.ensures.found honest,
  subst (λ (t : List ℕ). Appends (g.W.Write.contents c.args.output.now) (g.W.Write.contents c.write_out.new.output) t) c.deref.ensures.value c.in_ok-write_out.ensures.bytes,
)

pub returns-clause-form : goal.returns-clause-form
returns-clause-form g c = (
  c.in_ok-text.text.items,
  c.in_ok-text.ensures.form,
  subst (λ (t : List ℕ). Appends (g.W.Write.contents c.args.output.now) (g.W.Write.contents c.write_out.new.output) t) c.deref.ensures.value c.in_ok-write_out.ensures.bytes,
)
