use Rattle.std.proofs.Common.{arith}
use Rattle.memory_folder.specs.Held.{synced_of}
use Rattle.memory_folder.proofs.Leaving.{synced_fits}
use Rattle.memory_folder.proofs.held.Held.stays.Goals as goal

pub returns-clause-within : goal.returns-clause-within
returns-clause-within c =
    let fit = synced_fits (synced_of c.args.self.now.synced) c.args.self.now.bytes.items c.requires in
    omega (arith, fit, c.synced_size-synced.ensures, c.min.ensures, c.saturating_sub.ensures, c.len.ensures)
