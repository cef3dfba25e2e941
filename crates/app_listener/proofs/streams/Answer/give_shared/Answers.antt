use Rattle.std.proofs.Common.{◌∙◌, ◌++◌, ap, drop, sym}
use Rattle.app_listener.proofs.Replies.{shared_leave}
use Rattle.app_listener.proofs.streams.Answer.give_shared.Goals as goal

pub returns : goal.returns
returns c =
    let old = c.args.self.now in
    let left = shared_leave old.own.items old.shared old.sent c.in_ok-count.count c.requires in
    (left.0, left.1 ∙ ap (λ shared. left.0 ++ (drop old.sent old.own.items ++ shared)) (sym c.advance.ensures))
