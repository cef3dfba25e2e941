use Rattle.net_outbox.specs.declared.outbox.Outbox.{Outbox}
use Rattle.net_outbox.proofs.Left.{leaves_of}
use Rattle.net_outbox.proofs.outbox.Outbox.drain.Goals as goal

-- what the stream took has left
pub returns : goal.returns
returns g c =
    let new : Outbox g.row.S.Denot = record { stream = c.give-count.new.stream; unsent = c.give-count.new.unsent; taken = c.saturating_add-self.result } in
    leaves_of g.S.Write.contents c.args.self.now new c.give-count.result.0 c.give-count.ensures c.saturating_add-self.ensures
