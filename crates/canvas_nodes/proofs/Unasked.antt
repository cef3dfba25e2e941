-- Bytes that aren't asked.
use Rattle.std.proofs.Common.{◌≡◌, ℕ, List, sym, subst}
use Rattle.canvas_model.specs.Messages.{Message}
use Rattle.canvas_judge.specs.declared.message.NoReason.{NoReason}
use Rattle.canvas_wire.specs.Text.{SpellsMessage}
use Rattle.canvas_wire.specs.declared.fault.WireError.{WireError}
use Rattle.canvas_wire.specs.declared.fault.WireError.TheVariants.{NotJson, NotAMessage, OutOfRange, TooDeep, Memory}
use Rattle.canvas_nodes.specs.Answers.{IsAsked, IsUnasked, SpellsAsked, reason_of_wire_error}

-- they spell a message that a client doesn't send
pub other_spelled : (bytes : List ℕ) (m : Message) → ((n : Message) → SpellsMessage bytes n → m ≡ n) → (IsAsked m → ⊥) → (n : Message) → SpellsAsked bytes n → ⊥
other_spelled bytes m only other n spelled = other (subst IsAsked (sym (only n spelled.0)) spelled.1)

-- `decode` refuses them, and a text of a message for want of memory alone
pub refused_so : (bytes : List ℕ) (e : WireError) → ((n : Message) → SpellsMessage bytes n → e ≡ Memory) → IsUnasked bytes (reason_of_wire_error e)
refused_so bytes NotJson only = λ n spelled. let f : NotJson ≡ Memory = only n spelled.0 in absurd (cc)
refused_so bytes NotAMessage only = λ n spelled. let f : NotAMessage ≡ Memory = only n spelled.0 in absurd (cc)
refused_so bytes OutOfRange only = λ n spelled. let f : OutOfRange ≡ Memory = only n spelled.0 in absurd (cc)
refused_so bytes TooDeep only = λ n spelled. let f : TooDeep ≡ Memory = only n spelled.0 in absurd (cc)
refused_so bytes Memory only = tt

-- the same for the reason that was found
pub refused_for : (bytes : List ℕ) (e : WireError) (reason : NoReason) → reason ≡ reason_of_wire_error e → ((n : Message) → SpellsMessage bytes n → e ≡ Memory) → IsUnasked bytes reason
refused_for bytes e reason is only = subst (IsUnasked bytes) (sym is) (refused_so bytes e only)
