use Rattle.std.proofs.Common.{length, ap, ◌∙◌, arith}
use Rattle.serde_json.specs.View.{view}
use Rattle.canvas_live.proofs.Told.{start_before, tells}
use Rattle.canvas_live.proofs.here.write_here.Goals as goal

pub overflow_sub-value_bytes : goal.overflow_sub-value_bytes
overflow_sub-value_bytes c =
    let w = c.in_ok-text.ensures in
    let all = c.len.ensures ∙ c.in_ok-text.text.ok.0 in
    let start = c.len-2.ensures ∙ c.in_ok-start.start.bytes.ok.0 ∙ ap length c.in_ok-start.ensures in
    let before = start_before c.in_ok-text.text.items (view c.args.json.now) c.args.client c.len.result c.len-2.result w.utf8 w.compact w.order w.reads_back c.requires.1 all start c.requires.0.0 c.requires.0.1 in
    omega (arith, before)

pub overflow_sub-value_bytes-2 : goal.overflow_sub-value_bytes-2
overflow_sub-value_bytes-2 c =
    let w = c.in_ok-text.ensures in
    let all = c.len.ensures ∙ c.in_ok-text.text.ok.0 in
    let start = c.len-2.ensures ∙ c.in_ok-start.start.bytes.ok.0 ∙ ap length c.in_ok-start.ensures in
    let before = start_before c.in_ok-text.text.items (view c.args.json.now) c.args.client c.len.result c.len-2.result w.utf8 w.compact w.order w.reads_back c.requires.1 all start c.requires.0.0 c.requires.0.1 in
    omega (arith, before)

pub invariant_of-result : goal.invariant_of-result
invariant_of-result c =
    let w = c.in_ok-text.ensures in
    let all = c.len.ensures ∙ c.in_ok-text.text.ok.0 in
    let start = c.len-2.ensures ∙ c.in_ok-start.start.bytes.ok.0 ∙ ap length c.in_ok-start.ensures in
    record { told = ∣ (c.requires.0.0, tells c.in_ok-text.text.items (view c.args.json.now) c.args.client c.len.result c.len-2.result w.utf8 w.compact w.order w.reads_back c.requires.1 all start c.requires.0.0 c.requires.0.1) ∣₁ }

pub returns-clause-told : goal.returns-clause-told
returns-clause-told c =
    let w = c.in_ok-text.ensures in
    let all = c.len.ensures ∙ c.in_ok-text.text.ok.0 in
    let start = c.len-2.ensures ∙ c.in_ok-start.start.bytes.ok.0 ∙ ap length c.in_ok-start.ensures in
    (c.requires.0.0, c.requires.0.1, tells c.in_ok-text.text.items (view c.args.json.now) c.args.client c.len.result c.len-2.result w.utf8 w.compact w.order w.reads_back c.requires.1 all start c.requires.0.0 c.requires.0.1)
