use Rattle.std.proofs.Common.{List, sym, subst}
use Rattle.canvas_model.specs.Messages.{Message}
use Rattle.canvas_board.specs.Marks.{board}
use Rattle.room_handler.specs.Table.{AnswersAsk}
use Rattle.room_handler.proofs.asking.answer_ask.Goals as goal

pub returns-clause-answers : goal.returns-clause-answers
returns-clause-answers g c =
    subst (λ (ms : List Message). AnswersAsk (board g.N.RoomName.opening c.ask_told.new.seat) c.args.client c.args.version ms) (sym c.in_ok-messages.ensures) c.in_ok-told.ensures.answers
