use Rattle.std.proofs.Common.{ℕ, Vec, Global}
use Rattle.canvas_nodes.proofs.Texts.{one_further}
use Rattle.room_handler.specs.Told.{seen_told}
use Rattle.room_handler.proofs.told.told_texts.Goals as goal

pub loop-message-preserved : goal.loop-message-preserved
loop-message-preserved c =
    one_further (λ (v : Vec ℕ Global). v.items) seen_told c.loop-message.texts.items c.push.new.self.items c.args.told.now c.loop-message.message-index c.in_ok-text.text c.message-item.result
    c.loop-message-test.true c.message-item.is c.in_ok-push.ensures.items c.loop-message.invariant c.in_ok-text.ensures
