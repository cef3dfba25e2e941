use Rattle.std.proofs.Common.{List, refl, subst, sym, ℕ}
use Rattle.app_args.specs.declared.asked.Invocation.{Invocation}
use Rattle.app_faults.specs.Told.{EndsCommand}
use Rattle.app_faults.specs.declared.subject.Subject.TheVariants.{Folder}
use Rattle.lugcurrant.specs.Kicks.{WritesTaken}
use Rattle.lugcurrant.specs.Runs.{CarriesOut}
use Rattle.lugcurrant.proofs.running.carry_out.Goals as goal

pub returns-in-Kick : goal.returns-in-Kick
returns-in-Kick g c =
    subst (λ (asked : Invocation).
    CarriesOut asked c.run_kick.result (g.I.Read.remaining c.args.input.now) (g.I.Read.remaining c.args.input.now)
    (g.W.Write.contents c.args.output.now) (g.W.Write.contents c.run_kick.new.output)
    (g.F.Write.contents c.args.faults.now) (g.F.Write.contents c.run_kick.new.faults))
    (sym c.in-Kick.is) (
      refl,
      subst (λ (name : List ℕ).
          EndsCommand (WritesTaken name (g.W.Write.contents c.args.output.now) (g.W.Write.contents c.run_kick.new.output)) Folder name
          c.run_kick.result (g.F.Write.contents c.args.faults.now) (g.F.Write.contents c.run_kick.new.faults))
          c.deref-in-Kick.ensures c.run_kick.ensures,
    )
