use Rattle.std.proofs.Common.{◌≡◌}
use Rattle.std.specs.Prelude.{◌↔◌, IsTrue, reverse}
use Rattle.std.specs.Prelude.{map as list_map}
use Rattle.std.specs.List.{list_any}
use Rattle.std.specs.BTreeSet.{contains}
use Rattle.canvas_model.specs.declared.ObjId.{ObjId}
use Rattle.canvas_model.specs.Ids.{id_cmp}
use Rattle.canvas_model.specs.Standing.{AreOwn}
use Rattle.canvas_model.specs.View.{creates_it}
use Rattle.canvas_client.proofs.parts.are_own.Given as goal

-- so it is of the edits from the last one on, which are the ones that are noted
abbrev pub invariant-loop-change : goal.invariant-loop-change
invariant-loop-change g l = record {
  own : IsTrue l.own ↔ AreOwn l.client l.counter (reverse (list_map (λ c. c.now) l.yielded));
  tells : (q : ObjId) → contains id_cmp l.later q ≡ list_any (creates_it q) (reverse (list_map (λ c. c.now) l.yielded));
}
