-- What contracts see of a client's answers.
use Rattle.canvas_model.specs.Receive as receive
use Rattle.canvas_client.specs.declared.received.Received.{Received}
use Rattle.canvas_client.specs.declared.received.Received.TheVariants as received

-- the model's answer that this one stands for
abbrev pub seen_received : Received → receive.Received
seen_received received.Took = receive.Took
seen_received received.Old = receive.Old
seen_received received.Ahead = receive.Ahead
seen_received received.NotForMe = receive.NotForMe
