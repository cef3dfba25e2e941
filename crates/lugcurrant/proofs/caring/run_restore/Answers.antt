use Rattle.std.proofs.Common.{inl, inr}
use Rattle.std.specs.Prelude.{OnOk}
use Rattle.canvas_journal.proofs.Results.{ok_map}
use Rattle.app_admin.specs.Begun.{WritesBegun}
use Rattle.app_faults.proofs.Ends.{ended}
use Rattle.app_faults.specs.declared.subject.Subject.TheVariants.{Folder}
use Rattle.lugcurrant.proofs.caring.run_restore.Goals as goal

pub returns-in-Ok : goal.returns-in-Ok
returns-in-Ok g c =
    let begun : OnOk c.begin_folder-done.result (WritesBegun (g.W.Write.contents c.args.output.now) (g.W.Write.contents c.begin_folder-done.new.output)) =
    ok_map c.begin_folder-done.result _ _ c.begin_folder-done.ensures (λ told. ((c.in-Ok.state, c.in-Ok.version), told)) in
    inl (ended _ c.begin_folder-done.result Folder c.args.dir.now c.finish.result _ _ begun c.finish.ensures)

pub returns-in-Err : goal.returns-in-Err
returns-in-Err g c = inr (inr (c.in-Err.fault, c.finish-in-Err.ensures))
