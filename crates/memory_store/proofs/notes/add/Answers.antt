use Rattle.std.proofs.Common.{List, ◌∙◌, ap}
use Rattle.memory_store.specs.Held.{disk_after}
use Rattle.memory_store.specs.declared.notes.Note.{Note}
use Rattle.memory_store.proofs.Noting.{after_push, legal_added, fits_added, stays_added}
use Rattle.memory_store.proofs.notes.add.Goals as goal

pub returns-clause-ok : goal.returns-clause-ok
returns-clause-ok c disk = ap (λ (l : List Note). disk_after l disk) c.in_ok-push.ensures.items ∙ after_push c.args.notes.now.items c.args.note disk

pub returns-clause-legal : goal.returns-clause-legal
returns-clause-legal c disk legal may = legal_added c.args.notes.now.items _ c.args.note disk c.in_ok-push.ensures.items legal may

pub returns-clause-fits : goal.returns-clause-fits
returns-clause-fits c past fit = fits_added c.args.notes.now.items _ c.args.note past c.in_ok-push.ensures.items fit

pub returns-clause-past : goal.returns-clause-past
returns-clause-past c base past fit = stays_added c.args.notes.now.items _ c.args.note base past c.in_ok-push.ensures.items fit
