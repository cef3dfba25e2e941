use Rattle.std.proofs.Common.{◌<◌, ◌^◌, subst, arith}
use Rattle.canvas_board.specs.Marks.{board}
use Rattle.canvas_board.specs.News.{IsNews, IsNext}
use Rattle.room_handler.proofs.Boards.{few_told}
use Rattle.room_handler.proofs.asking.push.Goals as goal

pub told_entries-requires : goal.told_entries-requires
told_entries-requires g c =
    let small : c.args.version < 2 ^ 64 = omega arith in
    let next = c.in-Ok-Some-Entries.ensures.answer in
    let news = subst (IsNext (board g.N.RoomName.opening c.next.new.self) c.args.client c.args.version 64) c.in-Ok-Some-Entries.field-0-is next.1 in
    let entries = subst (IsNews (board g.N.RoomName.opening c.next.new.self) c.args.client c.args.version 64) c.in-Ok-Some-Entries.field-0-0-is news.1 in
    few_told g.N.RoomName.opening c.next.new.self c.args.version c.in-Ok-Some-Entries.entries.items next.0.1 small entries.1
