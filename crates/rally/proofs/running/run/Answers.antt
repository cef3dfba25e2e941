use Rattle.std.proofs.Common.{Bool, true, false, refl, subst}
use Rattle.std.specs.Prelude.{map, string_bytes}
use mathlib.Core.Logic.{inl}
use Rattle.rally.specs.Runs.{DoesRally}
use Rattle.rally.proofs.running.run.Goals as goal

pub returns-in-Ok-true : goal.returns-in-Ok-true
returns-in-Ok-true g c =
    inl (true, refl, subst (λ (b : Bool). DoesRally (map string_bytes c.args.words.now) b (g.W.Write.contents c.args.output.now) (g.W.Write.contents c.perform.new.output)) c.in-Ok-true.field-0-test c.in-Ok-true.ensures.done, refl)

pub returns-in-Ok-false : goal.returns-in-Ok-false
returns-in-Ok-false g c =
    inl (false, refl, subst (λ (b : Bool). DoesRally (map string_bytes c.args.words.now) b (g.W.Write.contents c.args.output.now) (g.W.Write.contents c.perform.new.output)) c.in-Ok-false.field-0-test c.in-Ok-false.ensures.done, refl)
