use Rattle.std.proofs.Common.{[], ◌∷◌, inl, inr, refl}
use Rattle.std.specs.Prelude.{map}
use Rattle.canvas_server.specs.Asked.{seen_request}
use Rattle.canvas_room_tests.proofs.crashes.submit_all.Goals as goal

pub returns : goal.returns
returns g c honest seen begins left was =
    let batch = c.submit_many-answers.ensures in
    let floor = c.checkpoint-answer.ensures in
    let asked = map seen_request c.args.requests.now in
    c.found_after_every_crash.ensures.seen c.args.desk.now c.checkpoint-answer.new.self ([] ∷ asked ∷ []) seen left
    (record { is_honest = honest; runs = c.requires.alive; kept = c.keeper-keeper.ensures.kept c.requires.alive honest; legal = c.due-due.ensures.legal }) (
      c.submit_many-answers.new.self,
      (c.args.desk.now, refl, inl (record { stays_failed = batch.failed; stays_honest = batch.honest; crash = batch.crash })),
      inr (refl, (c.checkpoint-answer.result, inl (record { ok = floor.ok; refused = floor.refused; stays_failed = floor.failed; stays_honest = floor.honest; crash = floor.crash }))),
    )
    begins was
