use Rattle.std.proofs.Common.{ℕ, List, ◌++◌, ap, subst, sym, ◌∙◌, arith}
use Rattle.net_outbox.specs.Texts.{text_bytes}
use Rattle.canvas_model.specs.Messages as messages
use Rattle.canvas_board.specs.Marks.{board}
use Rattle.canvas_wire.specs.Text.{EncodesMessage}
use Rattle.room_handler.proofs.Shared.{copy_told}
use Rattle.room_handler.proofs.shared_copy.SharedCopy.text.Goals as goal

-- the start of the client's own copy, and the end that the copies share
pub returns : goal.returns
returns g c =
    let b = board g.N.RoomName.opening c.args.self.now in
    let kept = rw c.self.view_is at c.self.invariant in
    let end = kept.of_rows in
    let encodes = c.in_ok-start.ensures b.state.doc end.0 end.1 in
    let is = c.in_ok-sharing.ensures ∙ ap (λ (l : List ℕ). c.in_ok-start.start.items ++ l) end.2 in
    let whole = subst (λ (n : ℕ). EncodesMessage (text_bytes c.in_ok-sharing.field-0) (messages.Copy n c.in-Some.done b.state.doc)) kept.at_version
    (subst (λ (l : List ℕ). EncodesMessage l (messages.Copy c.self.inside.version c.in-Some.done b.state.doc)) (sym is) encodes) in
    copy_told b c.args.client c.args.version c.in-Some.done (text_bytes c.in_ok-sharing.field-0) (sym c.done.ensures ∙ c.in-Some.is) (omega (arith, kept.from_floor)) (omega (arith, kept.at_version)) whole
