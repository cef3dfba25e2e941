use Rattle.std.proofs.Common.{Vec, Global, map}
use Rattle.net_outbox.specs.Texts.{text_bytes}
use Rattle.net_outbox.specs.declared.text.Text.{Text}
use Rattle.app_server.proofs.Heres.{here_replied, word_begun}
use Rattle.app_server.proofs.live_seat.LiveSeat.reply_to_word.Goals as goal

-- the word by which a client wants to be told unasked
pub returns-in-Ok-Some-Live : goal.returns-in-Ok-Some-Live
returns-in-Ok-Some-Live g c =
    word_begun g.N.RoomName.opening c.args.self.now c.begin.new.self (λ (ts : Vec Text Global). map text_bytes ts.items) c.args.bytes.now c.in-Ok-Some-Live.place (rw c.in-Ok-Some-Live.field-0-0-is at (rw c.in-Ok-Some-Live.field-0-is at c.in-Ok-Some-Live.ensures.some)) c.begin.result
    c.begin.ensures.begins c.begin.ensures.refuses c.begin.ensures.sees

-- what it tells of itself
pub returns-in-Ok-Some-Here : goal.returns-in-Ok-Some-Here
returns-in-Ok-Some-Here g c =
    let here = c.in-Ok-Some-Here.here in
    let some = rw c.in-Ok-Some-Here.field-0-0-is at (rw c.in-Ok-Some-Here.field-0-is at c.in-Ok-Some-Here.ensures.some) in
    here_replied (λ (ts : Vec Text Global). map text_bytes ts.items) c.args.self.now c.hear.new.self c.args.bytes.now here.client some.0 here.text.items here.value_bytes some.1 some.2
    c.hear.ensures.stays g.N.RoomName.opening c.hear.result c.hear.ensures.hears c.hear.ensures.refuses
