use Rattle.canvas_journal.proofs.Results.{ok_map}
use Rattle.app_admin_etcd.proofs.homes.import_document.Goals as goal

pub returns : goal.returns
returns g c = ok_map c.begin_on-done.result _ _ c.begin_on-done.ensures.line (λ line. ((c.in_ok-state.state, c.in_ok-state.version), c.in_ok-state.ensures, line))
