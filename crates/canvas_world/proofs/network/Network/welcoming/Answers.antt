use Rattle.std.proofs.Common.{refl}
use Rattle.canvas_world.proofs.Posts.{welcomes_at, no_entry_at, no_join_at, no_asker_at}
use Rattle.canvas_world.proofs.network.Network.welcoming.Goals as goal

pub returns-in_err-entry : goal.returns-in_err-entry
returns-in_err-entry g c = no_entry_at _ c.args.self.now c.args.v _ _ _ c.self.view_is c.published.ensures c.if-v-published.false c.in_err-entry.ensures c.deref.ensures.value c.from_residual.ensures

pub returns-in_err-client : goal.returns-in_err-client
returns-in_err-client g c =
    no_join_at _ c.args.self.now c.args.v _ _ _ _ _ c.self.view_is c.published.ensures c.if-v-published.false c.in_ok-entry.ensures c.deref.ensures.value c.entry.view_is c.in_err-client.ensures c.from_residual-in_err-client.ensures

pub returns-in_err-asker : goal.returns-in_err-asker
returns-in_err-asker g c =
    no_asker_at _ c.args.self.now c.args.v _ _ _ _ _ _ _ c.self.view_is c.published.ensures c.if-v-published.false c.in_ok-entry.ensures c.deref.ensures.value c.entry.view_is c.in_ok-client.ensures c.in_err-asker.ensures c.deref-2.ensures.value
    c.from_residual-in_err-asker.ensures

pub returns : goal.returns
returns g c =
    welcomes_at _ c.args.self.now c.args.v _ _ _ _ _ _ _ _ c.self.view_is c.published.ensures c.if-v-published.false c.in_ok-entry.ensures c.deref.ensures.value c.entry.view_is c.in_ok-client.ensures c.in_ok-asker.ensures c.deref-2.ensures.value
    refl
