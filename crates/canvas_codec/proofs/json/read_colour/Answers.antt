use Rattle.canvas_codec.proofs.Reading.{not_one}
use Rattle.canvas_codec.proofs.json.read_colour.Goals as goal

pub returns-then-items-ne1-clause-fault : goal.returns-then-items-ne1-clause-fault
returns-then-items-ne1-clause-fault g c = not_one c.args.items.now c.if-items-ne1.true
