use Rattle.std.proofs.Common.{[], ◌∷◌, inl}
use Rattle.canvas_server.specs.Asked.{seen_request}
use Rattle.canvas_room_tests.proofs.crashes.submit_each.Goals as goal

pub loop-request-preserved : goal.loop-request-preserved
loop-request-preserved g c =
    let inv = c.loop-request.invariant in
    let told = c.submit-answer.ensures in
    record {
      calls = (seen_request c.in-Some.request ∷ []) ∷ inv.calls;
      run = (c.loop-request.desk, inv.run, inl (record { stays_failed = told.failed; stays_honest = told.honest; crash = told.crash }));
    }

pub loop-request-preserved-in-Some : goal.loop-request-preserved-in-Some
loop-request-preserved-in-Some g c =
    let inv = c.loop-request.invariant in
    let told = c.submit-answer.ensures in
    record {
      calls = (seen_request c.in-Some.request ∷ []) ∷ inv.calls;
      run = (c.loop-request.desk, inv.run, inl (record { stays_failed = told.failed; stays_honest = told.honest; crash = told.crash }));
    }

pub returns-clause-found : goal.returns-clause-found
returns-clause-found g c honest seen begins left was =
    let inv = c.loop-request.invariant in
    c.found_after_every_crash.ensures.seen c.args.desk.now c.loop-request.desk inv.calls seen left
    (record { is_honest = honest; runs = c.requires; kept = c.keeper-keeper.ensures.kept c.requires honest; legal = c.due-due.ensures.legal })
    inv.run begins was
