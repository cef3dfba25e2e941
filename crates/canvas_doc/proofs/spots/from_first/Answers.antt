use Rattle.std.proofs.Common.{sym, subst}
use Rattle.std.specs.Option.{option_copied}
use Rattle.std.specs.FinMap as map
use Rattle.canvas_model.specs.Ids.{id_cmp}
use Rattle.canvas_model.specs.Document.{place_of}
use Rattle.canvas_doc.specs.Spots.{IsFirst}
use Rattle.canvas_doc.proofs.spots.from_first.Goals as goal

pub returns-in-Some : goal.returns-in-Some
returns-in-Some g c =
    let at = c.from_cut.ensures in
    (at.0, subst (λ o. IsFirst (place_of (map.from_sorted {R = id_cmp} c.args.rows.now)) c.args.parent (option_copied o) c.args.spots.now at.0) (sym c.in-Some.is) at.1, at.2)

pub returns-in-None : goal.returns-in-None
returns-in-None g c =
    let at = c.from_start.ensures in
    (at.0, subst (λ o. IsFirst (place_of (map.from_sorted {R = id_cmp} c.args.rows.now)) c.args.parent (option_copied o) c.args.spots.now at.0) (sym c.in-None.is) at.1, at.2)
