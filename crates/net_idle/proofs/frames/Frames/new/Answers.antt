-- No bytes have passed.
use Rattle.std.proofs.Common.{refl}
use Rattle.net_idle.proofs.Passing.{stands_at_begin}
use Rattle.net_idle.proofs.frames.Frames.new.Goals as goal

pub returns : goal.returns
returns c = λ _. stands_at_begin _ refl refl refl
