use Rattle.std.proofs.Common.{◌++◌, List, ℕ, Err, codes, ap, sym, ◌∙◌}
use Rattle.std.specs.List.{list_all}
use Rattle.std.proofs.lemmas.Result.{err_from_is_err_and}
use Rattle.app_tokens.specs.Keys.{is_key, lines_of}
use Rattle.app_tokens.specs.Parts.{words_of}
use Rattle.app_tokens.proofs.Lines.{all_more, bad_before, bad_last, good_last, one_line}
use Rattle.app_tokens.proofs.keys.keys_in.Goals as goal

pub returns-in_err-add_key-clause-refused : goal.returns-in_err-add_key-clause-refused
returns-in_err-add_key-clause-refused c =
    let p = err_from_is_err_and c.from_residual.result c.from_residual.ensures.1 in
    let so_far = c.loop-line.invariant in
    rw (p.1, p.2)
    (λ other. let bad = c.in_err-add_key.ensures.refused other in
    bad_before c.args.text.now c.loop-line.keys.items c.loop-line.rest.now c.in-Some.line.now c.in-Some.more.now so_far.0 c.in-Some.ensures.cut so_far.1 so_far.2 bad.1
    ∙ ap Err (sym bad.0))

pub loop-line-preserved : goal.loop-line-preserved
loop-line-preserved c =
    let so_far = c.loop-line.invariant in
    let added = c.in_ok-add_key.ensures.key in (
      so_far.0,
      ap (λ (ks : List (List ℕ)). ks ++ words_of (codes "\n") c.in-Some.more.now) added.1
          ∙ one_line c.loop-line.keys.items c.loop-line.rest.now c.in-Some.line.now c.in-Some.more.now (lines_of c.args.text.now) c.in-Some.ensures.cut so_far.1,
      ap (list_all is_key) added.1 ∙ all_more c.loop-line.keys.items c.in-Some.line.now so_far.2 added.0,
    )

pub returns-in_err-add_key-2-clause-refused : goal.returns-in_err-add_key-2-clause-refused
returns-in_err-add_key-2-clause-refused c =
    let p = err_from_is_err_and c.from_residual-in_err-add_key-2.result c.from_residual-in_err-add_key-2.ensures.1 in
    let so_far = c.loop-line.invariant in
    rw (p.1, p.2)
    (λ other. let bad = c.in_err-add_key-2.ensures.refused other in
    bad_last c.args.text.now c.loop-line.keys.items c.loop-line.rest.now so_far.0 c.in_default.ensures.cut so_far.1 so_far.2 bad.1 ∙ ap Err (sym bad.0))

pub returns-clause-keys : goal.returns-clause-keys
returns-clause-keys c =
    let so_far = c.loop-line.invariant in
    let added = c.in_ok-add_key-2.ensures.key in
    good_last c.args.text.now c.loop-line.keys.items c.add_key-2.new.keys.items c.loop-line.rest.now so_far.0 c.in_default.ensures.cut so_far.1 so_far.2 added.0 added.1
