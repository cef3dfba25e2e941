use Rattle.std.proofs.Common.{◌≡◌, ◌<◌, ◌^◌, take}
use Rattle.canvas_model.proofs.Spelled.{value_of, DigitsBelow}
use Rattle.canvas_script.proofs.words.read_count.Given as goal

abbrev pub invariant-loop-byte : goal.invariant-loop-byte
invariant-loop-byte l = record { value : l.value ≡ value_of (take l.byte-index l.word); small : l.value < 10 ^ l.byte-index; digits : DigitsBelow l.word l.byte-index }
