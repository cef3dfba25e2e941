use Rattle.std.proofs.Common.{map}
use Rattle.canvas_judge.specs.Seen.{seen_message}
use Rattle.canvas_server.specs.Asked.{seen_request}
use Rattle.canvas_board.specs.Marks.{board}
use Rattle.room_handler.proofs.Ends.{ask_ends}
use Rattle.room_handler.proofs.Requested.{other_answers, request_answers, request_ends}
use Rattle.room_handler.proofs.messages.answer.Goals as goal

pub returns-in-Ask-clause-whole : goal.returns-in-Ask-clause-whole
returns-in-Ask-clause-whole g c = ask_ends (λ v. map seen_message v.items) (board g.N.RoomName.opening c.answer_ask.new.seat) c.in-Ask.client c.in-Ask.version c.answer_ask.result c.answer_ask.ensures.answers

pub returns-in-Some-clause-table : goal.returns-in-Some-clause-table
returns-in-Some-clause-table g c =
    request_answers (λ v. map seen_message v.items) g.N.RoomName.opening c.args.seat.now (seen_message c.args.message) (seen_request c.in-Some.request) c.answer_request.new.seat c.in-Some.ensures c.answer_request.result c.answer_request.ensures.answers

pub returns-in-Some-clause-whole : goal.returns-in-Some-clause-whole
returns-in-Some-clause-whole g c =
    request_ends (λ v. map seen_message v.items) g.N.RoomName.opening c.args.seat.now (seen_request c.in-Some.request) c.answer_request.new.seat c.answer_request.result c.answer_request.ensures.answers

pub returns-in-None-clause-table : goal.returns-in-None-clause-table
returns-in-None-clause-table g c =
    other_answers (λ v. map seen_message v.items) g.N.RoomName.opening c.args.seat.now c.args.message c.in-None.ensures c.in_default.not-Ask c.alone.result c.alone.ensures
