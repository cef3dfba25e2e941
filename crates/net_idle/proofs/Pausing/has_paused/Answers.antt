-- It pauses only between two messages.
use Rattle.net_idle.proofs.Passing.{whole_messages}
use Rattle.net_idle.proofs.Pausing.has_paused.Goals as goal

pub returns-clause-messages : goal.returns-clause-messages
returns-clause-messages g c = λ paused bytes follows. whole_messages _ bytes (c.args.self.now.between paused) follows
