use Rattle.std.proofs.Common.{◌∙◌, map, sym, arith}
use Rattle.canvas_lines.specs.Seen.{seen_log_request}
use Rattle.canvas_lines.proofs.Readings.{next_left, passed_on, read_on, stopped, whole}
use Rattle.canvas_lines.proofs.requests.read_requests.Goals as goal

pub loop-line-preserved-then-is_passed : goal.loop-line-preserved-then-is_passed
loop-line-preserved-then-is_passed c =
    let left = c.loop-line.invariant.left ∙ c.in-Some.ensures.some in
    record {
      left = next_left c.loop-line.line_number _ _ _ left;
      counted = let less = c.in-Some.ensures.shorter in omega arith;
      read = passed_on c.loop-line.started c.args.input.now c.loop-line.line_number (map seen_log_request c.loop-line.requests.items) c.loop-line.invariant.read _ _ left (sym c.is_passed.ensures ∙ c.if-is_passed.true);
    }

pub loop-line-preserved : goal.loop-line-preserved
loop-line-preserved c =
    let left = c.loop-line.invariant.left ∙ c.in-Some.ensures.some in
    record {
      left = next_left c.loop-line.line_number _ _ _ left;
      counted = let less = c.in-Some.ensures.shorter in omega arith;
      read = read_on c.loop-line.started c.args.input.now c.loop-line.line_number (map seen_log_request c.loop-line.requests.items) c.loop-line.invariant.read _ _ left (sym c.is_passed.ensures ∙ c.if-is_passed.false) _ c.in-Ok.ensures.ok;
    }

pub returns-in-Err-Unreadable-clause-bad : goal.returns-in-Err-Unreadable-clause-bad
returns-in-Err-Unreadable-clause-bad c =
    let left = c.loop-line.invariant.left ∙ c.in-Some.ensures.some in
    stopped c.loop-line.started c.args.input.now c.loop-line.line_number (map seen_log_request c.loop-line.requests.items) c.loop-line.invariant.read _ _ left (sym c.is_passed.ensures ∙ c.if-is_passed.false) (c.in-Err-Unreadable.ensures.err c.in-Err-Unreadable.field-0-is).0

pub returns-clause-whole : goal.returns-clause-whole
returns-clause-whole c =
    whole c.loop-line.started c.args.input.now c.loop-line.line_number (map seen_log_request c.loop-line.requests.items) c.loop-line.invariant.read c.loop-line.rest.now c.loop-line.invariant.left c.in_default.ensures.none
