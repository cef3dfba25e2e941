-- Which messages make no request.
use Rattle.std.proofs.Common.{◌≡◌, ℕ, None, refl}
use Rattle.canvas_model.specs.Change.{Change}
use Rattle.canvas_model.specs.Messages as messages
use Rattle.canvas_judge.specs.declared.message.Message.{Message as Stored}
use Rattle.canvas_judge.specs.declared.message.Message.TheVariants as stored
use Rattle.canvas_judge.specs.Seen.{seen_message}
use Rattle.canvas_server.specs.Asked.{asked_by}

-- a stored message that is no Join and no edit
pub asks_nothing : {A : Type 0} (m : Stored A) → (m ≡ stored.Join → ⊥) → ((client seq : ℕ) (change : Change) → seen_message m ≡ messages.Edit client seq change → ⊥) → None ≡ asked_by (seen_message m)
asks_nothing stored.Join no_join no_edit = absurd (no_join refl)
asks_nothing (stored.Welcome client) no_join no_edit = refl
asks_nothing (stored.Edit client seq change) no_join no_edit = absurd (no_edit client seq change refl)
asks_nothing (stored.Ask client version) no_join no_edit = refl
asks_nothing (stored.Entry version entry) no_join no_edit = refl
asks_nothing (stored.Copy copy) no_join no_edit = refl
asks_nothing stored.Idle no_join no_edit = refl
asks_nothing (stored.No reason) no_join no_edit = refl
