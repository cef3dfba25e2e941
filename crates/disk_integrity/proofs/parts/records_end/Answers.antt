use Rattle.std.proofs.Common.{◌≡◌, ◌∙◌, ◌+◌, ℕ, List, ◌∷◌, length, ap, arith, length-append}
use Rattle.canvas_shelf.specs.Records.{record_of, records, texts}
use Rattle.canvas_shelf.proofs.Texts.{length-record_of}
use Rattle.disk_integrity.proofs.parts.records_end.Goals as goal

-- how many bytes one more record is
record_more : (t : List ℕ) (ts : List (List ℕ)) → length (records (t ∷ ts)) ≡ 4 + length t + length (records ts)
record_more t ts = length-append (record_of t) (records ts) ∙ ap (λ (n : ℕ). n + length (records ts)) (length-record_of t)

pub loop-text-preserved : goal.loop-text-preserved
loop-text-preserved c =
    let first : length (records (texts c.loop-text.rest.now)) ≡ 4 + length c.in-Some._text.now + length (records (texts c.in-Some.after.now)) =
    ap (λ (ts : List (List ℕ)). length (records ts)) c.in-Some.ensures.first ∙ record_more c.in-Some._text.now (texts c.in-Some.after.now) in
    record { within = omega (arith, c.in-Some.ensures.size, c.loop-text.invariant.within); left = omega (arith, first, c.in-Some.ensures.size, c.loop-text.invariant.left) }
