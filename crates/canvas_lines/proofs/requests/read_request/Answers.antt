use Rattle.std.proofs.Common.{◌≡◌, ◌∙◌, Bool, false, ℕ, List, eqb, sym}
use Rattle.std.specs.Cmp.Lexicographic.{pointwise}
use Rattle.std.proofs.lemmas.Bool.{false≢true}
use Rattle.std.proofs.lemmas.Bool.Decides.{Decides-eqb}
use Rattle.std.proofs.lemmas.Slice.Eq.{slice_eq-Decides}
use Rattle.canvas_lines.specs.Spelling.{SpellsChange, SpellsRequest}
use Rattle.canvas_lines.proofs.Spellings.{line_uncut, line_author, line_change, spells_edit}
use Rattle.canvas_lines.proofs.Unread.{passed, unread}
use Rattle.canvas_lines.proofs.requests.read_request.Goals as goal

not_word : (line word shown : List ℕ) (r : Bool) → r ≡ pointwise eqb line shown → r ≡ false → shown ≡ word → line ≡ word → ⊥
not_word line word shown r tested is_false same is =
    false≢true (sym is_false ∙ (slice_eq-Decides Decides-eqb line shown r tested).1 (is ∙ sym same))

pub returns-in_err-author-clause-err : goal.returns-in_err-author-clause-err
returns-in_err-author-clause-err c =
    unread (SpellsRequest c.args.line.now) c.from_residual.result _ c.from_residual.ensures.1 c.in_err-author.ensures.err.0
    (line_uncut c.args.line.now (not_word _ _ _ _ c.eq.ensures c.if-eq.false (cc)) c.in_err-author.ensures.err.1)

pub returns-in_err-author-2-clause-err : goal.returns-in_err-author-2-clause-err
returns-in_err-author-2-clause-err c =
    unread (SpellsRequest c.args.line.now) c.from_residual-in_err-author-2.result _ c.from_residual-in_err-author-2.ensures.1 c.in_err-author-2.ensures.err.0
    (λ requested spelled.
    let a = line_author c.args.line.now (not_word _ _ _ _ c.eq.ensures c.if-eq.false (cc)) _ _ c.in_ok-author.ensures.ok requested spelled in
    c.in_err-author-2.ensures.err.1 a.0 a.1)

pub returns-in_err-change-clause-err : goal.returns-in_err-change-clause-err
returns-in_err-change-clause-err c =
    passed (SpellsChange c.in_ok-author.text.now) (SpellsRequest c.args.line.now)
    (line_change c.args.line.now (not_word _ _ _ _ c.eq.ensures c.if-eq.false (cc)) _ _ c.in_ok-author.ensures.ok)
    c.from_residual-in_err-change.result _ c.from_residual-in_err-change.ensures.1 c.in_err-change.ensures.err

pub returns-clause-ok : goal.returns-clause-ok
returns-clause-ok c =
    spells_edit c.args.line.now _ _ c.in_ok-author-2.author _ c.in_ok-author.ensures.ok c.in_ok-author-2.ensures.ok.0 c.in_ok-author-2.ensures.ok.1 c.in_ok-change.ensures.ok
