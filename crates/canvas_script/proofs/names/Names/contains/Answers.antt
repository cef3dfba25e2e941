use Rattle.std.proofs.Common.{ap, ◌∙◌}
use Rattle.canvas_script.specs.Names.{is_used}
use Rattle.canvas_script.proofs.Numbering.{any_seen, name_of}
use Rattle.canvas_script.proofs.names.Names.contains.Goals as goal

pub returns : goal.returns
returns c = c.contains.ensures ∙ any_seen name_of c.args.name.now c.self.inside.names.keys ∙ ap (λ names. is_used names c.args.name.now) c.self.view_is
