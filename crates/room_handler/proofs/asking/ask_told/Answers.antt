use Rattle.std.proofs.Common.{◌<◌, ◌^◌, subst, arith}
use Rattle.canvas_board.specs.Marks.{board}
use Rattle.canvas_board.specs.News.{IsNews}
use Rattle.room_handler.proofs.Boards.{few_told}
use Rattle.room_handler.proofs.asking.ask_told.Goals as goal

pub told-requires : goal.told-requires
told-requires g c =
    let small : c.args.version < 2 ^ 64 = omega arith in
    let news = c.in-Ok-Entries.ensures.answer in
    let entries = subst (IsNews (board g.N.RoomName.opening c.news.new.self) c.args.client c.args.version 64) c.in-Ok-Entries.field-0-is news.1 in
    few_told g.N.RoomName.opening c.news.new.self c.args.version c.in-Ok-Entries.entries.items news.0.1 small entries.1
