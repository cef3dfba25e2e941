use Rattle.std.proofs.Common.{◌≡◌, ◌<◌, ◌+◌, ◌++◌, ◌∷◌, [], length, true, false, sym, ◌∙◌, ap, rules, arith}
use Rattle.std.specs.Prelude.{◌==◌}
use Rattle.std.proofs.lemmas.Bool.Decides.{nat_tests}
use Rattle.canvas_model.specs.Document.{live}
use Rattle.canvas_doc.proofs.Levels.{level_first, level_more, nothing_below, nothing_so_far, something_there}
use Rattle.canvas_doc.proofs.Doc.reaches.Goals as goal

pub returns-then-not-has : goal.returns-then-not-has
returns-then-not-has g c =
    let dead : live c.args.self.now c.args.id ≡ false = search rules in
    nothing_below c.args.self.now c.args.steps c.args.id dead

pub loop-init : goal.loop-init
loop-init g c =
    let alive : live c.args.self.now c.args.id ≡ true = search rules in
    let one : c.push.new.self.items ≡ c.args.id ∷ [] = c.in_ok-push.ensures.items ∙ ap (λ l. l ++ c.args.id ∷ []) c.new-level.ensures.items in
    let long : length c.push.new.self.items ≡ 1 = ap length one in
    (level_first c.args.self.now c.args.id c.push.new.self.items one alive, omega (arith, long))

pub returns-then-is_empty : goal.returns-then-is_empty
returns-then-is_empty g c =
    let level = level_more c.args.self.now c.loop.counter c.args.id c.loop.level.items c.deref.result.now c.in_ok-level.level.items c.loop.invariant.0 c.deref.ensures.value c.in_ok-level.ensures in
    let empty : (c.in_ok-level.level.len == 0) ≡ true = sym c.is_empty.ensures ∙ c.if-is_empty.true in
    let zero_long : c.in_ok-level.level.len ≡ 0 = grind (arith, nat_tests) in
    let none : length c.in_ok-level.level.items ≡ 0 = omega (arith, c.in_ok-level.level.ok.0, zero_long) in
    nothing_so_far c.args.self.now (c.loop.counter + 1) c.args.steps c.args.id c.in_ok-level.level.items level none (omega (arith, c.loop-test.true))

pub loop-preserved : goal.loop-preserved
loop-preserved g c =
    let level = level_more c.args.self.now c.loop.counter c.args.id c.loop.level.items c.deref.result.now c.in_ok-level.level.items c.loop.invariant.0 c.deref.ensures.value c.in_ok-level.ensures in
    let some : (c.in_ok-level.level.len == 0) ≡ false = sym c.is_empty.ensures ∙ c.if-is_empty.false in
    let long : 0 < c.in_ok-level.level.len = grind (arith, nat_tests) in
    (level, omega (arith, c.in_ok-level.level.ok.0, long))

pub returns : goal.returns
returns g c = something_there c.args.self.now c.loop.counter c.args.steps c.args.id c.loop.level.items c.loop.invariant.0 c.loop.invariant.1 (omega (arith, c.loop-test.false))
