-- What the server is asked.
use Rattle.std.specs.Prelude.{ℕ, Option, None, Some}
use Rattle.canvas_model.specs.Log.{What, Join, Edit}
use Rattle.canvas_model.specs.Messages.{Message}
use Rattle.canvas_model.specs.Messages as messages
use Rattle.canvas_server.specs.declared.request.Request.{Request}
use Rattle.canvas_server.specs.declared.request.Request.TheVariants as request

-- whose request it is and its number, both 0 for a Join, and what is asked
pub record Asked : Type 0 where
  pub author : ℕ
  pub seq : ℕ
  pub what : What

-- the request that a stored one stands for
abbrev pub seen_request : {A : Type 0} → Request A → Asked
seen_request request.Join = record { author = 0; seq = 0; what = Join }
seen_request (request.Edit client seq change) = record { author = client; seq = seq; what = Edit change }

-- the request that a message makes, if it makes one
abbrev pub asked_by : Message → Option Asked
asked_by messages.Join = Some (record { author = 0; seq = 0; what = Join })
asked_by (messages.Edit client seq change) = Some (record { author = client; seq = seq; what = Edit change })
asked_by _ = None
