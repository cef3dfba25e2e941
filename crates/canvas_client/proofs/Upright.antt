-- A client stands after what it received.
use Rattle.canvas_model.specs.Client.{Client}
use Rattle.canvas_model.specs.Messages.{Message, Welcome, Idle, No}
use Rattle.canvas_model.specs.Messages as messages
use Rattle.canvas_model.specs.Receive.{Received, Took, Old, Ahead, NotForMe, Receives}
use Rattle.canvas_model.specs.Laws.{EachEntryStands, EachCopyShows, EachWelcomeStands}
use Rattle.canvas_client.specs.Follow.{CanFollow, EachVerdictLeavesRoot}
use Rattle.canvas_client.specs.Kept.{IsKept}
use Rattle.canvas_client.specs.Receives.{StaysUpright}

module _ (old new : Client) (kept : IsKept old) (taken : EachEntryStands) (copied : EachCopyShows) (given : EachWelcomeStands) (leaves : EachVerdictLeavesRoot) where
  pub upright : (message : Message) (answer : Received) → (CanFollow message → Receives old message answer new) → StaysUpright old message answer new
  upright (messages.Entry v e) Took r = λ s sound verdict meets stood. taken s old new v e sound verdict kept.own meets stood (r (leaves s e sound verdict))
  upright (messages.Entry v e) Old r = tt
  upright (messages.Entry v e) Ahead r = tt
  upright (messages.Entry v e) NotForMe r = tt
  upright (Welcome c) Took r = λ d none stood. given d old new c stood none (r tt)
  upright (Welcome c) Old r = tt
  upright (Welcome c) Ahead r = tt
  upright (Welcome c) NotForMe r = tt
  upright (messages.Copy v n d) Took r = copied d old new v n (r tt)
  upright (messages.Copy v n d) Old r = tt
  upright (messages.Copy v n d) Ahead r = tt
  upright (messages.Copy v n d) NotForMe r = tt
  upright messages.Join answer r = tt
  upright (messages.Edit c n change) answer r = tt
  upright (messages.Ask c v) answer r = tt
  upright Idle answer r = tt
  upright (No reason) answer r = tt
