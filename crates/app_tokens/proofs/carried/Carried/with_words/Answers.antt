use Rattle.std.proofs.Common.{ap, ◌∙◌}
use Rattle.app_tokens.specs.Carried.{all_after_prefix, carry, seen_carried}
use Rattle.app_tokens.specs.Parts.{words_of}
use Rattle.app_tokens.proofs.Carries.{carry_last, carry_word}
use Rattle.app_tokens.proofs.carried.Carried.with_words.Goals as goal

pub loop-word-preserved : goal.loop-word-preserved
loop-word-preserved c =
    ap (λ s. carry s (all_after_prefix c.args.prefix.now (words_of c.args.gaps.now c.in-Some.more.now))) c.with_word-carried.ensures
    ∙ carry_word (seen_carried c.loop-word.carried) c.args.prefix.now c.args.gaps.now c.loop-word.rest.now c.in-Some.word.now c.in-Some.more.now c.in-Some.ensures.cut
    ∙ c.loop-word.invariant

pub returns : goal.returns
returns c =
    c.with_word.ensures
    ∙ carry_last (seen_carried c.loop-word.carried) c.args.prefix.now c.args.gaps.now c.loop-word.rest.now c.in_default.ensures.cut
    ∙ c.loop-word.invariant
