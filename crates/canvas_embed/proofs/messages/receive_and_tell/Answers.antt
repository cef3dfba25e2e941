use Rattle.canvas_client.specs.Seen.{seen_received}
use Rattle.canvas_embed.proofs.messages.receive_and_tell.Goals as goal

pub returns-in-Took-clause-changed : goal.returns-in-Took-clause-changed
returns-in-Took-clause-changed c = c.in-Ok-changed_text.ensures c.args.client.now c.receive.new.self (seen_received c.in-Ok-receive.received) c.in-Ok-receive.ensures.receives
