use Rattle.std.proofs.Common.{rules}
use Rattle.std.proofs.lemmas.Fn.{always_returns_same}
use Rattle.canvas_doc.proofs.Searched.{searched}
use Rattle.canvas_doc.proofs.sorted.index_of.Goals as goal

pub returns : goal.returns
returns g c =
    let facts = c.binary_search_by.ensures in
    let by_key = facts.position (λ e. g.K.Ord.cmp e.0 c.args.key.now) (always_returns_same _ _ _ (λ a r f' called. (search rules, search rules))) in
    let both = searched g.met.K.Ord.total c.args.pairs.now c.requires c.args.key.now _ facts.bound by_key in
    record { found = both.0; absent = both.1 }
