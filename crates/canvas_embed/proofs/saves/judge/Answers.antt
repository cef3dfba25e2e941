use Rattle.std.proofs.Common.{sym, subst}
use Rattle.serde_json.specs.View.{view}
use Rattle.canvas_wire.specs.Faults.{Means}
use Rattle.canvas_embed.specs.Saves.{IsSavedFault, IsSavedJson, IsShallowClient, seen_saved_draft}
use Rattle.canvas_embed.proofs.Saved.{saved_fault, saved_out, saved_means, saved_unfinished, made}
use Rattle.canvas_embed.proofs.saves.judge.Goals as goal

pub returns-in-Err-clause-fault : goal.returns-in-Err-clause-fault
returns-in-Err-clause-fault c =
    subst (IsSavedFault (view c.args.json.now)) (sym c.refusal.ensures) (saved_fault (view c.args.json.now) c.in-Err.fault c.in-Err.ensures.fault)

pub returns-then-not-fits-clause-fault : goal.returns-then-not-fits-clause-fault
returns-then-not-fits-clause-fault c = saved_out (view c.args.json.now) (seen_saved_draft c.in-Ok.read.0) c.in-Ok.read.1 c.in-Ok.ensures.ok c.if-not-fits.true

pub finish-requires : goal.finish-requires
finish-requires c = made (view c.args.json.now) (seen_saved_draft c.in-Ok.read.0) c.in-Ok.read.1 c.in-Ok.ensures.ok c.if-not-fits.false

pub returns-in-Ok-finish-clause-ok : goal.returns-in-Ok-finish-clause-ok
returns-in-Ok-finish-clause-ok c =
    subst (Means IsSavedJson IsShallowClient (view c.args.json.now)) (sym c.in-Ok-finish.ensures.ok)
    (saved_means (view c.args.json.now) (seen_saved_draft c.in-Ok.read.0) c.in-Ok.read.1 c.in-Ok.ensures.ok c.if-not-fits.false c.in-Ok-finish.ensures.shallow)

pub returns-in-Err-finish-clause-fault : goal.returns-in-Err-finish-clause-fault
returns-in-Err-finish-clause-fault c =
    saved_unfinished (view c.args.json.now) (seen_saved_draft c.in-Ok.read.0) c.in-Ok.read.1 c.in-Ok.ensures.ok c.if-not-fits.false c.in-Err-finish.error c.in-Err-finish.ensures.fault
