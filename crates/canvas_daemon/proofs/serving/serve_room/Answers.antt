use Rattle.std.proofs.Common.{rules, ◌≡◌, List, ℕ, ap, subst, inr, ◌∙◌}
use Rattle.std.proofs.KnownBytes.{Appends-trans}
use Rattle.std.proofs.lemmas.Result.{err_from_is_err_and, on_ok_weaker}
use Rattle.std.specs.Io.KnownBytes.{Appends}
use Rattle.canvas_daemon.specs.Served.{served_line, serving_line}
use Rattle.canvas_daemon.proofs.serving.serve_room.Goals as goal

pub returns-in_err-serve_seats-clause-begun : goal.returns-in_err-serve_seats-clause-begun
returns-in_err-serve_seats-clause-begun g c =
    let line = c.in_ok-serving_line.ensures ∙ ap (serving_line c.args.port) c.requires.version in
    let first = subst (λ (t : List ℕ). Appends (g.W.Write.contents c.args.output.now) (g.W.Write.contents c.write_line.new.output) t) line c.in_ok-write_line.ensures.bytes in
    let p = err_from_is_err_and c.from_residual-in_err-serve_seats.result c.from_residual-in_err-serve_seats.ensures.1 in
    rw p.1 (λ other. inr first)

pub returns-in_err-served_line-clause-begun : goal.returns-in_err-served_line-clause-begun
returns-in_err-served_line-clause-begun g c =
    let line = c.in_ok-serving_line.ensures ∙ ap (serving_line c.args.port) c.requires.version in
    let first = subst (λ (t : List ℕ). Appends (g.W.Write.contents c.args.output.now) (g.W.Write.contents c.write_line.new.output) t) line c.in_ok-write_line.ensures.bytes in
    let p = err_from_is_err_and c.from_residual-in_err-served_line.result c.from_residual-in_err-served_line.ensures.1 in
    rw p.1 (λ other. inr first)

pub returns-clause-told : goal.returns-clause-told
returns-clause-told g c =
    let begun = c.in_ok-serving_line.ensures ∙ ap (serving_line c.args.port) c.requires.version in
    let first = subst (λ (t : List ℕ). Appends (g.W.Write.contents c.args.output.now) (g.W.Write.contents c.write_line.new.output) t) begun c.in_ok-write_line.ensures.bytes in
    let count : c.len-count.result ≡ c.args.room.seats = search rules in
    let line = c.in_ok-served_line.ensures ∙ ap (λ n. served_line n c.version-last.result) count in
    on_ok_weaker c.check_journal-ended.result
    (λ kept. (
      c.version-last.result,
      Appends-trans _ _ _ (serving_line c.args.port c.args.room.opening.version) (served_line c.args.room.seats c.version-last.result) first
          (subst (λ (t : List ℕ). Appends (g.W.Write.contents c.write_line.new.output) (g.W.Write.contents c.write_line-2.new.output) t) line c.in_ok-write_line-2.ensures.bytes),
    ))
    c.check_journal-ended.ensures.ok
