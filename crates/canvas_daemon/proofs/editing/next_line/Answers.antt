use Rattle.std.proofs.Common.{rules, ◌≡◌, ◌-◌, ◌<◌, length, take, slice_get, Some, inl, inr, arith}
use Rattle.std.proofs.lemmas.Bool.Decides.{nat_tests}
use Rattle.canvas_daemon.proofs.Taking.{IsCut, one_taken}
use Rattle.canvas_daemon.proofs.editing.next_line.Goals as goal
use Rattle.canvas_daemon.proofs.editing.next_line.Goals.{then-ends_with_feed, else-ends_with_feed}

pub returns-clause-taken : goal.returns-clause-taken
returns-clause-taken g c =
    let text = c.read_until.new.buf.items in
    let some : 0 < length text = grind (arith, nat_tests) in
    let cut : IsCut text c.if-ends_with_feed.line.items = elim c.if-ends_with_feed.branch [
      | then-ends_with_feed w ↦
          let ends : slice_get text (length text - 1) ≡ Some 10 = search rules in
          let is : c.if-ends_with_feed.line.items ≡ take (length text - 1) text = search rules in
          inl (ends, is)
      | else-ends_with_feed w ↦
          let ends : slice_get text (length text - 1) ≡ Some 10 → ⊥ = search rules in
          let is : c.if-ends_with_feed.line.items ≡ text = search rules in
          inr (ends, is)
    ] in
    one_taken (g.I.Read.remaining c.args.input.now) (g.I.Read.remaining c.read_until.new.self) text c.if-ends_with_feed.line.items (search rules) (search rules) some cut
