use Rattle.std.proofs.Common.{rules}
use Rattle.std.specs.Ordering.{is_lt}
use Rattle.std.proofs.lemmas.Fn.{always_returns_same}
use Rattle.canvas_doc.proofs.Searched.{rising_answer}
use Rattle.canvas_doc.proofs.sorted.is_sorted.Goals as goal

pub returns : goal.returns
returns g c = rising_answer g.met.K.Ord.total c.args.pairs.now _
    (c.is_sorted_by.ensures.cases (λ x y. is_lt (g.K.Ord.cmp x.0 y.0)) (always_returns_same _ _ _ (λ a r f' called. (search rules, search rules))))
