use Rattle.std.proofs.Common.{refl}
use Rattle.canvas_wire.specs.Heads.{Head}
use Rattle.canvas_wire.proofs.Ranges.{clients_sound, head_fits}
use Rattle.canvas_wire.proofs.sound.sound_head.Goals as goal

pub returns-clause-sound : goal.returns-clause-sound
returns-clause-sound c = rw (clients_sound c.args.clients.now) refl

pub returns-clause-in_range : goal.returns-clause-in_range
returns-clause-in_range c =
    let h : Head = record { version = c.args.version; clients = c.args.clients.now; count = c.args.count } in
    head_fits h c.know_clients.ensures
