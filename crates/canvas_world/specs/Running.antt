-- What holds of every network that is kept.
use Rattle.std.specs.Prelude.{◌≡◌, length, drop}
use Rattle.canvas_model.specs.World.{World, state}
use Rattle.canvas_model.specs.Good.{IsGood}
use Rattle.canvas_server.specs.Served.{Served}

-- what the server of this world holds
abbrev pub served_in : World → Served
served_in w = record { state = state w; version = length w.log; published = w.published; floor = w.floor; kept = drop w.floor w.log }

-- the world is good, and this is its server
pub record ServesGoodWorld (server : Served) (w : World) : Type 0 where
  pub serves : server ≡ served_in w
  pub good : IsGood w
