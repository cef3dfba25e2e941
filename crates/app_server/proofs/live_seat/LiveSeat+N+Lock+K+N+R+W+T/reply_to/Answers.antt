use Rattle.std.proofs.Common.{Vec, Global, map}
use Rattle.net_outbox.specs.Texts.{text_bytes}
use Rattle.net_outbox.specs.declared.text.Text.{Text}
use Rattle.canvas_judge.specs.Seen.{seen_message}
use Rattle.app_server.proofs.Heres.{replied_as_asked, replied_otherwise}
use Rattle.app_server.proofs.live_seat.LiveSeat+N+Lock+K+N+R+W+T.reply_to.Goals as goal

pub returns-in-Err-NotRead : goal.returns-in-Err-NotRead
returns-in-Err-NotRead g c =
    replied_otherwise (λ (ts : Vec Text Global). map text_bytes ts.items) g.N.RoomName.opening c.args.self.now c.reply_to_word.new.self c.args.bytes.now (rw c.in-Err-NotRead.field-0-is at c.in-Err-NotRead.ensures.err)
    c.reply_to_word.result c.reply_to_word.ensures

pub returns-in-Ok : goal.returns-in-Ok
returns-in-Ok g c =
    let asked = c.reply_to_asked in
    replied_as_asked (λ (ts : Vec Text Global). map text_bytes ts.items) g.N.RoomName.opening c.args.self.now asked.new.self c.args.bytes.now (seen_message c.in-Ok.message) c.in-Ok.ensures.ok asked.result asked.ensures.gives asked.ensures.memory
    asked.ensures.sees
