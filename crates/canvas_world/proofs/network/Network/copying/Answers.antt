use Rattle.std.proofs.Common.{sym, ◌∙◌}
use Rattle.canvas_world.proofs.Posts.{copy_joined}
use Rattle.canvas_world.proofs.network.Network.copying.Goals as goal

pub copy_for-requires : goal.copy_for-requires
copy_for-requires g c = copy_joined c.every_good_world.ensures.joined _ _ c.args.k _ _ _ _ c.self.invariant c.in-Some.ensures c.deref.ensures.value c.node.view_is (sym c.id.ensures ∙ c.in-Some-id.is)
