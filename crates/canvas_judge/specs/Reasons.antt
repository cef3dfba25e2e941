-- The numbers by which the server's refusals are known.
use Rattle.std.specs.Prelude.{◌≡◌, ℕ, Result}
use Rattle.canvas_model.specs.Text.{Reads}
use Rattle.canvas_judge.specs.declared.message.NoReason.{NoReason}
use Rattle.canvas_judge.specs.declared.message.NoReason.TheVariants.{Stranger, Repeat, Gap, Full, Device, Failed, Memory, TooLarge, NotRead}

-- the number of a refusal, as it is sent
abbrev pub number_of : NoReason → ℕ
number_of Stranger = 1
number_of Repeat = 2
number_of Gap = 3
number_of Full = 4
number_of Device = 5
number_of Failed = 6
number_of Memory = 7
number_of TooLarge = 8
number_of NotRead = 9

-- the refusal of this number
abbrev pub ReadsNumber : {E : Type 0} → ℕ → Result NoReason E → Type 0
ReadsNumber n = Reads (λ reason. number_of reason ≡ n)
