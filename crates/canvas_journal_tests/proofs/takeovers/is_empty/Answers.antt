use Rattle.std.proofs.Common.{◌≡◌, ◌∙◌, [], sym}
use Rattle.canvas_journal_tests.proofs.Listed.{nothing, nil_of}
use Rattle.canvas_journal_tests.proofs.takeovers.is_empty.Goals as goal

pub returns-clause-empty : goal.returns-clause-empty
returns-clause-empty g c none honest =
    let disk = g.S.Shelf.disk c.args.shelf.now in
    let empty : c.in_ok-listed.listed.items ≡ [] = nil_of c.in_ok-listed.listed.items _ (sym c.in_ok-listed.listed.ok.0) (sym c.is_empty.ensures ∙ none) in
    let fresh = c.requires honest in
    (c.list.ensures.disk honest).0 ∙ nothing disk fresh.0 fresh.1 (sym (c.in_ok-listed.ensures.numbers honest) ∙ empty)
