use Rattle.std.proofs.Common.{◌≡◌, Some, ◌+◌, ◌-◌, map, ap, ◌∙◌, arith}
use Rattle.std.specs.Option.{option_map}
use Rattle.canvas_model.specs.Numbered.{nth}
use Rattle.canvas_script.proofs.Numbering.{name_of, seen_at}
use Rattle.canvas_script.proofs.names.Names.name.Goals as goal

pub returns : goal.returns
returns c =
    let back : c.args.k - 1 + 1 ≡ c.args.k = omega arith in
    ap Some c.as_slice.ensures.value
    ∙ ap (option_map name_of) c.in_ok-name.ensures.key
    ∙ seen_at name_of c.self.inside.names.keys (c.args.k - 1)
    ∙ ap (nth (map name_of c.self.inside.names.keys)) back
    ∙ ap (λ names. nth names c.args.k) c.self.view_is
