use Rattle.std.proofs.Common.{◌≡◌, map, rules, subst}
use Rattle.canvas_model.specs.World.{Run, empty}
use Rattle.canvas_script.specs.Plays.{AddsItems, events_of}
use Rattle.canvas_script.specs.Reading.{InputSays}
use Rattle.canvas_script.specs.Script.{seen_item}
use Rattle.canvas_world.proofs.Synced.{keeps_all}
use Rattle.canvas_world.proofs.Trees.{agreed_trees}
use Rattle.canvas_script.proofs.Entering.{names_are_nodes}
use Rattle.canvas_script.proofs.Plays.{added_run, reported}
use Rattle.canvas_script.proofs.run.world_run.Goals as goal

pub returns-clause-world : goal.returns-clause-world
returns-clause-world c =
    let items = map seen_item c.in_ok-items.items.items in
    let says : InputSays c.args.input.now c.in_ok-items.names items = search rules in
    let same : c.deref.result.now ≡ c.in_ok-items.items.items = search rules in
    (c.in_ok-items.names, items, says, subst (λ xs. Run empty (events_of (map seen_item xs)) c.in_ok-world.world) same (added_run _ _ _ _ _ _ c.in_ok-world.ensures))

pub returns-clause-report : goal.returns-clause-report
returns-clause-report c =
    let items = map seen_item c.in_ok-items.items.items in
    let says : InputSays c.args.input.now c.in_ok-items.field-0.names items = search rules in
    let same : c.deref.result.now ≡ c.in_ok-items.items.items = search rules in
    let adds = subst (λ xs. AddsItems c.in_ok-items.field-0.names empty (map seen_item xs) c.new-text.result.items c.in_ok-world.world c.play_items.new.out.items) same c.in_ok-world.ensures in
    let named = names_are_nodes c.every_step.ensures.good c.every_run.ensures.good c.args.input.now c.in_ok-items.field-0.names items c.in_ok-world.world says (added_run _ _ _ _ _ _ adds) in
    reported c.args.input.now c.in_ok-items.field-0.names items c.in_ok-world.world _ _ _ _ _ says named adds (search rules) c.in_ok-write_report.ensures (search rules)

pub returns-clause-claims : goal.returns-clause-claims
returns-clause-claims c = c.every_run.ensures.claims _ _ (added_run _ _ _ _ _ _ c.in_ok-world.ensures)

pub returns-clause-shows : goal.returns-clause-shows
returns-clause-shows c = (c.every_run.ensures.claims _ _ (added_run _ _ _ _ _ _ c.in_ok-world.ensures)).views

pub returns-clause-agree : goal.returns-clause-agree
returns-clause-agree c = c.every_run.ensures.agree _ _ (added_run _ _ _ _ _ _ c.in_ok-world.ensures)

pub returns-clause-trees : goal.returns-clause-trees
returns-clause-trees c = agreed_trees c.one_tree.ensures.one _ (c.every_run.ensures.agree _ _ (added_run _ _ _ _ _ _ c.in_ok-world.ensures))

pub returns-clause-no_cycle : goal.returns-clause-no_cycle
returns-clause-no_cycle c = c.every_run.ensures.no_cycle _ _ (added_run _ _ _ _ _ _ c.in_ok-world.ensures)

pub returns-clause-kept : goal.returns-clause-kept
returns-clause-kept c = c.every_run.ensures.kept _ _ (added_run _ _ _ _ _ _ c.in_ok-world.ensures)

pub returns-clause-synced : goal.returns-clause-synced
returns-clause-synced c = keeps_all c.every_step.ensures.synced c.every_step.ensures.good c.every_run.ensures.good _

pub returns-clause-readable : goal.returns-clause-readable
returns-clause-readable c =
    let items = map seen_item c.in_ok-items.items.items in
    let says : InputSays c.args.input.now c.in_ok-items.names items = search rules in
    λ n bad. c.one_bad_script_line.ensures.none c.args.input.now c.in_ok-items.names items n says bad
