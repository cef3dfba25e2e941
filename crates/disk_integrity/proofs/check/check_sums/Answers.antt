use Rattle.std.proofs.Common.{◌≡◌, ◌++◌, [], ◌∷◌, ℕ, List, take, length, refl, sym, subst, ap, arith, ◌≤◌}
use Rattle.disk_integrity.specs.Lines.{AreSums, HasNoEnd, none, more}
use Rattle.disk_integrity.specs.Running.{IsSumOf, size_of}
use Rattle.disk_integrity.proofs.Behind.{one_more, each_more}
use Rattle.disk_integrity.proofs.check.check_sums.Goals as goal

pub loop-line-init : goal.loop-line-init
loop-line-init c =
    let zero : size_of c.new-sum.result ≡ 0 = c.new-sum.ensures.size in
    record { within = (let all : 0 ≤ length c.args.segment.now = omega arith in rw zero all); of = subst (λ (bytes : List ℕ). IsSumOf c.new-sum.result bytes) (ap (λ (n : ℕ). take n c.args.segment.now) (sym zero)) c.new-sum.ensures; so_far = ([], refl, tt, rw zero none) }

pub loop-line-preserved : goal.loop-line-preserved
loop-line-preserved c =
    let before = c.loop-line.invariant.so_far.0 in
    let line = c.in-Some.line.now in
    let n = size_of c.loop-line.sum in
    let m = size_of c.follow.new.sum in
    let done = c.in_ok-follow.ensures in
    record {
      within = done.within.1;
      of = done.after;
      so_far = (
        before ++ line ∷ [],
        one_more c.args.sums.now c.loop-line.rest.now line c.in-Some.after.now before c.loop-line.invariant.so_far.1 c.in-Some.ensures.0,
        each_more HasNoEnd before line c.loop-line.invariant.so_far.2 c.in-Some.ensures.1,
        subst (λ (x : List ℕ). AreSums c.args.segment.now (before ++ x ∷ []) m) (sym done.holds) (more before n m c.loop-line.invariant.so_far.3 done.within.0 done.within.1),
      );
    }
