use Rattle.std.proofs.Common.{rules, ap, refl}
use Rattle.canvas_model.specs.Messages.{Edit}
use Rattle.canvas_judge.specs.Seen.{seen_message}
use Rattle.canvas_embed.specs.declared.fault.ResumeError.TheVariants as resume
use Rattle.canvas_embed.proofs.OwnEdits.{own_edit}
use Rattle.canvas_embed.proofs.resuming.resume.Goals as goal

pub returns-in-Err-clause-only_memory : goal.returns-in-Err-clause-only_memory
returns-in-Err-clause-only_memory c = λ may. ap resume.Message (c.in-Err.ensures.only_memory (Edit may.2.id may.0 may.1) may.2.spelled)

pub returns-in-0-clause-ok : goal.returns-in-0-clause-ok
returns-in-0-clause-ok c =
    let e = c.in-Edit in
    (e.seq, e.change, own_edit c.args.client.now c.args.bytes.now e.id e.seq e.seq e.change (seen_message c.in-Ok.message) (search rules) (search rules) (search rules) refl, search rules, refl)

pub returns-in-Ok-false-clause-fault : goal.returns-in-Ok-false-clause-fault
returns-in-Ok-false-clause-fault c =
    let e = c.in-Edit in
    (e.change, own_edit c.args.client.now c.args.bytes.now e.id e.seq _ e.change (seen_message c.in-Ok.message) (search rules) (search rules) (search rules) (search rules), search rules)

pub returns-clause-fault : goal.returns-clause-fault
returns-clause-fault c =
    let e = c.in-Edit in
    (e.seq, e.change, own_edit c.args.client.now c.args.bytes.now e.id e.seq e.seq e.change (seen_message c.in-Ok.message) (search rules) (search rules) (search rules) refl, search rules)
