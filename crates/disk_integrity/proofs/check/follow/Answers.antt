use Rattle.std.proofs.Common.{◌≡◌, ◌∙◌, ◌<◌, ◌≤◌, ◌++◌, ℕ, List, length, take, min, sym, subst, ap, arith, length-take, true≢false}
use Rattle.std.specs.Prelude.{codes}
use Rattle.std.specs.Fmt.{decimal}
use Rattle.std.specs.List.{slice_range}
use Rattle.hex.specs.Hex.{encode_lower}
use Rattle.sha2.specs.Sha256.{sha256}
use Rattle.disk_integrity.specs.declared.sum.RunningSum.{RunningSum}
use Rattle.disk_integrity.specs.Lines.{Names, sum_text}
use Rattle.disk_integrity.specs.Running.{IsSumOf, size_of}
use Rattle.disk_integrity.proofs.Naming.{names_once, longer}
use Rattle.disk_integrity.proofs.check.follow.Goals as goal

-- the sum goes on to what was named
goes_on : (old new : RunningSum) (segment more : List ℕ) (good named : ℕ) → good ≡ size_of old → IsSumOf old (take (size_of old) segment)
    → ((before : List ℕ) → IsSumOf old before → IsSumOf new (before ++ more)) → good ≤ named → more ≡ slice_range segment good named → IsSumOf new (take named segment)
goes_on old new segment more good named size of adds le is =
    let before = subst (λ (n : ℕ). IsSumOf old (take n segment)) (sym size) of in
    subst (λ (x : List ℕ). IsSumOf new x) (ap (λ (x : List ℕ). take good segment ++ x) is ∙ longer segment good named le) (adds (take good segment) before)

-- it has counted as many bytes
counted : (segment : List ℕ) (size named : ℕ) → size ≡ min (length (take named segment)) 18446744073709551615 → named ≤ length segment → named < 18446744073709551616 → size ≡ named
counted segment size named is within small =
    let long = length-take named segment in
    omega (arith, is, long)

-- the text of the beginning that is named
text_of : (segment line digest : List ℕ) (named : ℕ) → Names line named digest → named ≤ length segment → digest ≡ encode_lower (sha256 (take named segment)) → line ≡ sum_text (take named segment)
text_of segment line digest named names within same =
    let long : length (take named segment) ≡ named = omega (arith, length-take named segment) in
    names.is ∙ ap (λ (x : List ℕ). decimal named ++ codes " " ++ x) same ∙ ap (λ (n : ℕ). decimal n ++ codes " " ++ encode_lower (sha256 (take named segment))) (sym long)

pub returns-then-named-good-clause-fault : goal.returns-then-named-good-clause-fault
returns-then-named-good-clause-fault c = (
  c.size-good.ensures,
  λ n digest names.
      let same = names_once c.args.line.now digest c.in-Some.digest.now n c.in-Some.named names c.in-Some.ensures in
      let below : c.in-Some.named < c.size-good.result = c.if-named-good.true in
      omega (arith, same, below, c.size-good.ensures),
)

pub returns-then-is_digest-clause-after : goal.returns-then-is_digest-clause-after
returns-then-is_digest-clause-after c =
    let looked = c.in-Some-get.ensures.lookup.0 in
    let segment = c.args.segment.now in
    let named = c.in-Some.named in
    let of = goes_on c.args.sum.now c.add.new.self segment c.in-Some-get.more.now c.size-good.result named c.size-good.ensures c.requires.before c.add.ensures looked.0 looked.2 in
    let size = counted segment (size_of c.add.new.self) named of.size looked.1 c.in-Some.ensures.small in
    subst (λ (n : ℕ). IsSumOf c.add.new.self (take n segment)) (sym size) of

pub returns-then-is_digest-clause-holds : goal.returns-then-is_digest-clause-holds
returns-then-is_digest-clause-holds c =
    let looked = c.in-Some-get.ensures.lookup.0 in
    let segment = c.args.segment.now in
    let named = c.in-Some.named in
    let of = goes_on c.args.sum.now c.add.new.self segment c.in-Some-get.more.now c.size-good.result named c.size-good.ensures c.requires.before c.add.ensures looked.0 looked.2 in
    let size = counted segment (size_of c.add.new.self) named of.size looked.1 c.in-Some.ensures.small in
    let same = (c.is_digest.ensures (take named segment) of).0 c.if-is_digest.true in
    text_of segment c.args.line.now c.in-Some.digest.now named c.in-Some.ensures looked.1 same
    ∙ ap (λ (n : ℕ). sum_text (take n segment)) (sym size)

pub returns-else-is_digest-clause-fault : goal.returns-else-is_digest-clause-fault
returns-else-is_digest-clause-fault c =
    let looked = c.in-Some-get.ensures.lookup.0 in
    let segment = c.args.segment.now in
    let named = c.in-Some.named in
    let of = goes_on c.args.sum.now c.add.new.self segment c.in-Some-get.more.now c.size-good.result named c.size-good.ensures c.requires.before c.add.ensures looked.0 looked.2 in
    let size = c.size-good.ensures in (
      size,
      (c.in-Some.digest.now, c.in-Some.ensures, λ same. true≢false (sym ((c.is_digest.ensures (take named segment) of).1 same) ∙ c.if-is_digest.false)),
      subst (λ (n : ℕ). n ≤ named) size looked.0,
      looked.1,
    )
