use Rattle.std.proofs.Common.{◌≡◌, ◌<◌, ◌++◌, ◌∷◌, [], length, true, false, sym, ◌∙◌, ap, arith}
use Rattle.std.specs.Prelude.{◌==◌}
use Rattle.std.specs.FinMap as map
use Rattle.std.proofs.lemmas.Bool.Decides.{nat_tests}
use Rattle.canvas_model.proofs.Trees.{below_live}
use Rattle.canvas_doc.proofs.Levels.{level_first, level_more, height_found, height_never}
use Rattle.canvas_doc.proofs.Doc.height.Goals as goal

pub loop-steps-init : goal.loop-steps-init
loop-steps-init g c =
    let one : c.push.new.self.items ≡ c.args.id ∷ [] = c.in_ok-push.ensures.items ∙ ap (λ l. l ++ c.args.id ∷ []) c.new-level.ensures.items in
    let long : length c.push.new.self.items ≡ 1 = ap length one in
    (level_first c.args.self.now c.args.id c.push.new.self.items one (below_live c.requires), omega (arith, long))

pub returns-then-is_empty : goal.returns-then-is_empty
returns-then-is_empty g c =
    let level = level_more c.args.self.now c.loop-steps.steps c.args.id c.loop-steps.level.items c.deref.result.now c.in_ok-level.level.items c.loop-steps.invariant.0 c.deref.ensures.value c.in_ok-level.ensures in
    let empty : (c.in_ok-level.level.len == 0) ≡ true = sym c.is_empty.ensures ∙ c.if-is_empty.true in
    let zero_long : c.in_ok-level.level.len ≡ 0 = grind (arith, nat_tests) in
    let none : length c.in_ok-level.level.items ≡ 0 = omega (arith, c.in_ok-level.level.ok.0, zero_long) in
    height_found c.args.self.now c.loop-steps.steps c.args.id c.loop-steps.level.items c.in_ok-level.level.items c.loop-steps.invariant.0 c.loop-steps.invariant.1 level none

pub loop-steps-preserved : goal.loop-steps-preserved
loop-steps-preserved g c =
    let level = level_more c.args.self.now c.loop-steps.steps c.args.id c.loop-steps.level.items c.deref.result.now c.in_ok-level.level.items c.loop-steps.invariant.0 c.deref.ensures.value c.in_ok-level.ensures in
    let some : (c.in_ok-level.level.len == 0) ≡ false = sym c.is_empty.ensures ∙ c.if-is_empty.false in
    let long : 0 < c.in_ok-level.level.len = grind (arith, nat_tests) in
    (level, omega (arith, c.in_ok-level.level.ok.0, long))

pub returns : goal.returns
returns g c =
    let counted = c.len-steps-end.ensures ∙ sym (map.len-entries c.args.self.now) in
    absurd (height_never c.args.self.now c.loop-steps.steps c.args.id c.loop-steps.level.items c.objects-objects.ensures.document c.requires c.loop-steps.invariant.0 c.loop-steps.invariant.1 (omega (arith, c.loop-steps-test.false, counted)))
