use Rattle.std.proofs.Common.{map, rules}
use Rattle.canvas_lines.specs.Seen.{seen_log_request}
use Rattle.canvas_lines.specs.Spelling.{InputSpells}
use Rattle.canvas_scene.proofs.log_run.Goals as goal

pub returns-clause-readable : goal.returns-clause-readable
returns-clause-readable c =
    let requested = map seen_log_request c.in_ok-requests.requests.items in
    let spelled : InputSpells c.args.input.now requested = search rules in
    λ n bad. c.one_bad_line.ensures.none c.args.input.now requested n spelled bad

pub returns-in-Some-clause-error : goal.returns-in-Some-clause-error
returns-in-Some-clause-error c = search rules
