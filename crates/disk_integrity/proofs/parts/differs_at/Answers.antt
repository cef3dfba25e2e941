use Rattle.std.proofs.Common.{◌≡◌, ◌∙◌, ◌++◌, length, take, drop, ap, sym, arith}
use Rattle.std.proofs.Math.Seq.{take-length}
use Rattle.std.proofs.lemmas.List.{take-append-drop}
use Rattle.disk_integrity.proofs.parts.differs_at.Goals as goal

pub returns : goal.returns
returns c =
    let bytes = c.args.bytes.now in
    let whole = c.args.whole.now in
    let at = c.loop-at.at in
    let end : at ≡ length bytes = omega (arith, c.loop-at.auto.at-end, c.loop-at-test.false) in
    record {
      rest = drop at whole;
      same = ap (λ x. x ++ drop at whole) (sym (take-length bytes) ∙ ap (λ n. take n bytes) (sym end) ∙ c.loop-at.invariant.same) ∙ take-append-drop at whole;
    }
