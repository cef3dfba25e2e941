use Rattle.std.proofs.Common.{refl}
use Rattle.std.proofs.lemmas.Result.{err_from_is_err_and}
use Rattle.canvas_judge.specs.Seen.{seen_message}
use Rattle.canvas_client.specs.Seen.{seen_received}
use Rattle.canvas_nodes.specs.declared.link.LinkError.TheVariants.{Memory}
use Rattle.canvas_nodes.proofs.Going.{stays, further, received}
use Rattle.canvas_nodes.proofs.Hearing.{heard_further, heard_some}
use Rattle.canvas_threads.proofs.pushes.hear.Goals as goal

pub loop-message-init : goal.loop-message-init
loop-message-init c = (stays c.args.client.now, refl)

pub loop-message-preserved : goal.loop-message-preserved
loop-message-preserved c = (
  further c.args.client.now c.loop-message.client c.receive.new.self c.loop-message.invariant.0
      (received c.loop-message.client c.receive.new.self (seen_message c.message-item.result) (seen_received c.in_ok-receive.field-0) c.in_ok-receive.ensures.apart),
  heard_further seen_message c.args.messages.now c.loop-message.message-index c.message-item.result c.args.client.now c.loop-message.client c.receive.new.self
      c.loop-message-test.true c.message-item.is c.loop-message.invariant.1
      (record { answer = seen_received c.in_ok-receive.field-0; apart = c.in_ok-receive.ensures.apart; follows = c.in_ok-receive.ensures.receives }),
)

pub returns-in_err-receive-clause-breaks : goal.returns-in_err-receive-clause-breaks
returns-in_err-receive-clause-breaks c =
    let p = err_from_is_err_and c.from_residual.result c.from_residual.ensures.1 in
    rw (p.1, p.2)
    (heard_some seen_message c.args.messages.now c.loop-message.message-index Memory c.args.client.now c.loop-message.client c.receive.new.self c.loop-message.invariant.1 c.in_err-receive.ensures.err refl)
