use Rattle.std.proofs.Common.{◌∷◌, codes, rules, ap, map, ◌∙◌, arith}
use Rattle.std.proofs.lemmas.List.{take_all}
use Rattle.serde_json.specs.Data.{string}
use Rattle.canvas_codec.specs.Json.{json}
use Rattle.canvas_value.proofs.Members.{member_within}
use Rattle.canvas_codec.proofs.Writing.{list_tree}
use Rattle.canvas_codec.proofs.json.+write.Goals as goal

pub write_list-write-requires : goal.write_list-write-requires
write_list-write-requires g t c κs within = search (rules, member_within c.args.members.now c.loop-member.member-index c.member-item.result c.loop-member-test.true)

pub write_list-returns : goal.write_list-returns
write_list-returns g t c =
    let whole = take_all c.loop-member.member-index c.args.members.now (omega arith) in
    let written = c.loop-member.invariant ∙ ap (λ ms. string (codes "list") ∷ map json ms) whole in
    c.from.ensures ∙ list_tree c.loop-member.items.items c.args.members.now written
