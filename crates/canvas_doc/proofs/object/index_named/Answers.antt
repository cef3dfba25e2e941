use Rattle.std.proofs.Common.{rules}
use Rattle.std.proofs.lemmas.Fn.{always_returns_same}
use Rattle.canvas_model.specs.Document.{name_cmp}
use Rattle.canvas_doc.proofs.Props.{names_total}
use Rattle.canvas_doc.proofs.Searched.{searched}
use Rattle.canvas_doc.proofs.object.index_named.Goals as goal

pub returns : goal.returns
returns g c =
    let facts = c.binary_search_by.ensures in
    let by_name = facts.position (λ e. name_cmp e.0 c.args.name.now) (always_returns_same _ _ _ (λ a r f' called. (search rules, search rules))) in
    let both = searched names_total c.args.props.now c.requires c.args.name.now _ facts.bound by_name in
    record { found = both.0; absent = both.1 }
