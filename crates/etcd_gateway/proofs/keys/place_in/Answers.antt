use Rattle.std.proofs.Common.{sym, ◌∙◌, codes, refl}
use Rattle.canvas_decimals.specs.Decimals.{ten_digits}
use Rattle.etcd_gateway.proofs.KeyLemmas.{backs, front, no_front, place_long, place_segment, place_chunk}
use Rattle.etcd_gateway.proofs.keys.place_in.Goals as goal

pub returns-then-digits-ne21-clause-none : goal.returns-then-digits-ne21-clause-none
returns-then-digits-ne21-clause-none c = λ s o s_less o_less e. c.if-digits-ne21.true (place_long c.args.digits.now s o e)

pub returns-in_err-chunk-clause-none : goal.returns-in_err-chunk-clause-none
returns-in_err-chunk-clause-none c = rw c.from_residual.ensures (λ s o s_less o_less e.
    no_front c.split_at.result.1.now (codes "/") c.in_err-chunk.ensures.cases (ten_digits o) (c.split_at.ensures.back ∙ place_chunk c.args.digits.now s o e))

pub returns-in_err-segment-clause-none : goal.returns-in_err-segment-clause-none
returns-in_err-segment-clause-none c = rw c.from_residual-in_err-segment.ensures (λ s o s_less o_less e.
    c.in_err-segment.ensures.none s s_less (c.split_at.ensures.front ∙ place_segment c.args.digits.now s o e))

pub returns-in_err-chunk-2-clause-none : goal.returns-in_err-chunk-2-clause-none
returns-in_err-chunk-2-clause-none c =
    let at = front c.split_at.result.1.now (codes "/") c.in_ok-chunk.chunk.now c.in_ok-chunk.ensures.cases.0 c.in_ok-chunk.ensures.cases.1 in
    rw c.from_residual-in_err-chunk-2.ensures (λ s o s_less o_less e.
    c.in_err-chunk-2.ensures.none o o_less (backs (codes "/") c.in_ok-chunk.chunk.now (codes "/") (ten_digits o) refl (sym at ∙ c.split_at.ensures.back ∙ place_chunk c.args.digits.now s o e)))
