use Rattle.std.proofs.Common.{◌∙◌, ap}
use Rattle.std.specs.Fmt.{decimal}
use Rattle.std.proofs.lemmas.Result.{IfOk-weaker}
use Rattle.canvas_server.specs.Served.{Served}
use Rattle.canvas_script.proofs.Blocks.{server_parts}
use Rattle.canvas_script.proofs.report.server_head.Goals as goal

pub returns : goal.returns
returns c =
    let held = c.server-server.ensures in
    let version = c.version-version.ensures ∙ ap (λ (s : Served). s.version) held in
    let published = c.published-published.ensures ∙ ap (λ (s : Served). s.published) held in
    let floor = c.floor-floor.ensures ∙ ap (λ (s : Served). s.floor) held in
    IfOk-weaker c.format.result _ _
    (λ s h. h ∙ server_parts _ _ _ _ _ _ _ _ (ap decimal version) (ap decimal c.synced-synced.ensures) (ap decimal published) (ap decimal floor))
    c.format.ensures.ok
