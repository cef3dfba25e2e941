use Rattle.std.proofs.Common.{◌≡◌, length}
use Rattle.app_tokens.specs.Carried.{all_after_prefix, carry, seen_carried}
use Rattle.app_tokens.specs.Parts.{words_of}
use Rattle.app_tokens.proofs.carried.Carried.with_words.Given as goal

-- what is carried so far and the words that are left make what all words make
abbrev pub invariant-loop-word : goal.invariant-loop-word
invariant-loop-word l =
    carry (seen_carried l.carried) (all_after_prefix l.prefix (words_of l.gaps l.rest))
    ≡ carry (seen_carried l.fn.self) (all_after_prefix l.prefix (words_of l.gaps l.words))

abbrev pub decreases-loop-word : goal.decreases-loop-word
decreases-loop-word l = length l.rest
