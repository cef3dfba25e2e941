use Rattle.canvas_board.proofs.ReadBack.{read_back_result}
use Rattle.canvas_board.proofs.laws.read_back.Goals as goal

pub returns : goal.returns
returns g c =
    let r = c.before-before.ensures in
    read_back_result (λ v. v.items) g.N.RoomName.opening c.args.receipt.history c.learn.new.self c.tail.new.self c.args.receipt.entry c.args.receipt.version c.before-before.result c.args.at_most c.tail.result
    c.learn.ensures.receipt r.legal r.ends r.version c.requires c.tail.ensures.answer
