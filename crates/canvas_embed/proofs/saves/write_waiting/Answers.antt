use Rattle.std.proofs.Common.{◌≡◌, ◌<◌, ◌≤◌, ◌∙◌, ◌++◌, ◌∷◌, [], length, map, Some, ap, arith, rules}
use Rattle.std.specs.Prelude.{slice_get}
use Rattle.std.proofs.lemmas.List.{map-append, take_all}
use Rattle.serde_json.specs.Data.{array}
use Rattle.serde_json.specs.View.{view, items_of}
use Rattle.canvas_forms.specs.Changes.{change_form}
use Rattle.canvas_forms.proofs.Members.{each_view}
use Rattle.canvas_embed.proofs.Saved.{written_more}
use Rattle.canvas_embed.proofs.saves.write_waiting.Goals as goal

pub loop-index-preserved : goal.loop-index-preserved
loop-index-preserved c =
    let x = c.unwrap.result.now in
    let there : slice_get c.args.client.now.waiting c.loop-index.index ≡ Some x = search rules in
    let lt : c.loop-index.index < length c.args.client.now.waiting = omega arith in
    let more : map view c.push.new.self.items ≡ map view c.loop-index.items.items ++ change_form.write x ∷ [] =
    ap (map view) c.in_ok-push.ensures.items ∙ map-append view c.loop-index.items.items (c.in_ok-change.change ∷ []) ∙ ap (λ d. map view c.loop-index.items.items ++ d ∷ []) c.in_ok-change.ensures
    in
    written_more (map view c.push.new.self.items) (map view c.loop-index.items.items) c.args.client.now.waiting c.loop-index.index x there lt c.loop-index.invariant more

pub returns : goal.returns
returns c =
    let xs = c.args.client.now.waiting in let long : length xs ≤ c.loop-index.index = omega arith in
    c.from-json.ensures ∙ ap (λ ds. array (items_of ds)) (c.loop-index.invariant ∙ ap (map change_form.write) (take_all c.loop-index.index xs long)) ∙ ap array (each_view change_form.write xs)
