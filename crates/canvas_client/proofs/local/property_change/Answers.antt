use Rattle.std.proofs.Common.{sym, subst}
use Rattle.canvas_model.specs.Change.{HoldsShallow}
use Rattle.canvas_model.specs.Change as change
use Rattle.canvas_client.proofs.local.property_change.Goals as goal

pub unreachable-requires : goal.unreachable-requires
unreachable-requires g c =
    let no = c.in-Err.ensures.shallow.1 (subst (λ name. HoldsShallow (change.Set c.args.id name c.args.value)) (sym c.in_ok-name.ensures) c.requires) in
    absurd (cc)
