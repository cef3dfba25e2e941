use Rattle.std.proofs.Common.{◌∙◌, ◌+◌, ◌-◌, map, take, sym, subst, arith}
use Rattle.canvas_lines.specs.Lines.{lines_of}
use Rattle.canvas_lines.proofs.Readings.{next_left}
use Rattle.canvas_script.specs.Reading.{LinesSay}
use Rattle.canvas_script.specs.Script.{seen_item}
use Rattle.canvas_script.proofs.Scripts.{passed_on, read_on, said_before, stopped, whole}
use Rattle.canvas_script.proofs.script.read_script.Goals as goal

pub loop-line-preserved-then-is_passed : goal.loop-line-preserved-then-is_passed
loop-line-preserved-then-is_passed c =
    let left = c.loop-line.invariant.left ∙ c.in-Some.ensures.some in
    record {
      left = next_left c.loop-line.line_number _ _ _ left;
      counted = let less = c.in-Some.ensures.shorter in omega arith;
      read = passed_on c.loop-line.started c.args.input.now c.loop-line.line_number c.loop-line.names (map seen_item c.loop-line.items.items) c.loop-line.invariant.read _ _ left (sym c.is_passed.ensures ∙ c.if-is_passed.true);
    }

pub loop-line-preserved : goal.loop-line-preserved
loop-line-preserved c =
    let left = c.loop-line.invariant.left ∙ c.in-Some.ensures.some in
    record {
      left = next_left c.loop-line.line_number _ _ _ left;
      counted = let less = c.in-Some.ensures.shorter in omega arith;
      read = read_on c.loop-line.started c.args.input.now c.loop-line.line_number c.loop-line.names (map seen_item c.loop-line.items.items) c.loop-line.invariant.read _ _ left (sym c.is_passed.ensures ∙ c.if-is_passed.false) _ _ c.in-Ok.ensures.ok;
    }

pub returns-in-Err-Unreadable-clause-bad : goal.returns-in-Err-Unreadable-clause-bad
returns-in-Err-Unreadable-clause-bad c =
    let left = c.loop-line.invariant.left ∙ c.in-Some.ensures.some in
    stopped c.loop-line.started c.args.input.now c.loop-line.line_number c.loop-line.names (map seen_item c.loop-line.items.items) c.loop-line.invariant.read _ _ left (sym c.is_passed.ensures ∙ c.if-is_passed.false) (c.in-Err-Unreadable.ensures.err c.in-Err-Unreadable.field-0-is).0

pub returns-in-Err-Unreadable-clause-before : goal.returns-in-Err-Unreadable-clause-before
returns-in-Err-Unreadable-clause-before c =
    let left = c.loop-line.invariant.left ∙ c.in-Some.ensures.some in
    let h = c.in-Err-Unreadable.ensures.err c.in-Err-Unreadable.field-0-is in
    let lines = take (c.loop-line.line_number + 1 - 1) (lines_of c.args.input.now) in
    let said = said_before c.loop-line.started c.args.input.now c.loop-line.line_number c.loop-line.names (map seen_item c.loop-line.items.items) c.loop-line.invariant.read _ _ left (sym c.is_passed.ensures ∙ c.if-is_passed.false) in
    subst (λ names. LinesSay lines names (map seen_item c.read_line.new.items.items)) (sym h.1) (subst (λ items. LinesSay lines c.loop-line.names (map seen_item items)) (sym h.2) said)

pub returns-clause-whole : goal.returns-clause-whole
returns-clause-whole c =
    whole c.loop-line.started c.args.input.now c.loop-line.line_number c.loop-line.names (map seen_item c.loop-line.items.items) c.loop-line.invariant.read c.loop-line.rest.now c.loop-line.invariant.left c.in_default.ensures.none
