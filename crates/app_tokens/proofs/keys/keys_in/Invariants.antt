use Rattle.std.proofs.Common.{◌≡◌, ◌≤◌, ◌++◌, true, length}
use Rattle.std.specs.Prelude.{codes}
use Rattle.std.specs.List.{list_all}
use Rattle.app_tokens.specs.Keys.{is_key, lines_of, most_file_bytes}
use Rattle.app_tokens.specs.Parts.{words_of}
use Rattle.app_tokens.proofs.keys.keys_in.Given as goal

-- the keys so far and the lines that are left make all lines
abbrev pub invariant-loop-line : goal.invariant-loop-line
invariant-loop-line l =
    (length l.text ≤ most_file_bytes) × (l.keys.items ++ words_of (codes "\n") l.rest ≡ lines_of l.text) × (list_all is_key l.keys.items ≡ true)

abbrev pub decreases-loop-line : goal.decreases-loop-line
decreases-loop-line l = length l.rest
