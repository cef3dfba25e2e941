use Rattle.std.proofs.Common.{◌≡◌, List, subst, sym, ◌∙◌}
use Rattle.net_outbox.specs.Texts.{text_bytes}
use Rattle.canvas_board.specs.Marks.{Mark, board}
use Rattle.room_handler.specs.Table.{TellsCopy}
use Rattle.room_handler.proofs.sharing.copy_from.Goals as goal

-- the seat has gone to the copy's history
pub returns-clause-copy : goal.returns-clause-copy
returns-clause-copy g c =
    let o = g.N.RoomName.opening in
    let tells = rw c.in-Some.is at c.in_ok-text.ensures in
    let there = sym (c.if-not-go_to.ensures.1 ∙ c.front.ensures) in (
      subst (λ (h : List Mark). TellsCopy (board o h) c.args.client c.args.version (text_bytes c.in-Some.text)) there tells,
      subst (λ (h : List Mark). c.version.result ≡ (board o h).version) there c.version.ensures,
    )
