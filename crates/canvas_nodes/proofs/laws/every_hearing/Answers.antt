use Rattle.canvas_nodes.proofs.Following.{joins_go_on, exchanges_go_on}
use Rattle.canvas_nodes.proofs.laws.every_hearing.Goals as goal

pub returns : goal.returns
returns g c = record { joins = joins_go_on g.L.Link.gives g.L.Link.fails; exchanges = exchanges_go_on g.L.Link.gives g.L.Link.fails }
