use Rattle.std.proofs.Common.{List, ℕ, subst, ◌∙◌}
use Rattle.std.specs.Io.KnownBytes.{Appends}
use Rattle.rally.proofs.rallying.rally.Goals as goal

pub returns-clause-told : goal.returns-clause-told
returns-clause-told g c = (
  c.in_ok-version.version,
  subst (λ (t : List ℕ). Appends (g.W.Write.contents c.args.output.now) (g.W.Write.contents c.write_out.new.output) t) (c.as_bytes.ensures.value ∙ c.in_ok-line.ensures) c.in_ok-write_out.ensures.bytes,
)
