use Rattle.std.proofs.Common.{◌≡◌, All, true, take}
use Rattle.canvas_forms.specs.Ids.{client_form}
use Rattle.canvas_wire.proofs.sound.know_clients.Given as goal

-- the first ones are so
abbrev pub invariant-loop-counts : goal.invariant-loop-counts
invariant-loop-counts l = All (λ k. client_form.fits k.used ≡ true) (take l.counts-index l.clients)
