-- How many of some changes write a field of a document.
use Rattle.std.specs.Prelude.{◌≡◌, ◌<◌, true, List, T}
use Rattle.std.specs.List.{count_by}
use Rattle.std.specs.FinMap as map
use Rattle.std.specs.Map.{count_at}
use Rattle.canvas_model.specs.declared.ObjId.{ObjId}
use Rattle.canvas_model.specs.Document.{Name}
use Rattle.canvas_model.specs.Change.{Change}
use Rattle.canvas_model.specs.View.{deletes_it, moves_it, sets_it}
use Rattle.canvas_pending.specs.Tallied.{HasNoZero, IsOneMore, IsSame, of_objects, of_props, prop_cmp}
use Rattle.canvas_pending.specs.declared.tallies.Tallies.{Tallies}

-- the properties are in order, and no count is 0
pub record AreTallies {A : Type 0} (t : Tallies A) : Type 0 where
  pub moves : HasNoZero (of_objects t.moves)
  pub deletes : HasNoZero (of_objects t.deletes)
  pub in_order : T (map.is_sorted prop_cmp t.sets)
  pub sets : HasNoZero (of_props t.sets)

-- g counts this change too
pub record CountsToo {A : Type 0} (change : Change) (f g : Tallies A) : Type 0 where
  pub moves : IsOneMore (λ q. moves_it q change) (of_objects f.moves) (of_objects g.moves)
  pub deletes : IsOneMore (λ q. deletes_it q change) (of_objects f.deletes) (of_objects g.deletes)
  pub sets : IsOneMore (λ k. sets_it k.0 k.1 change) (of_props f.sets) (of_props g.sets)

-- g has the counts of f
pub record CountsSame {A : Type 0} (f g : Tallies A) : Type 0 where
  pub moves : IsSame (of_objects f.moves) (of_objects g.moves)
  pub deletes : IsSame (of_objects f.deletes) (of_objects g.deletes)
  pub sets : IsSame (of_props f.sets) (of_props g.sets)

-- each field that the change writes was counted
pub record IsCounted {A : Type 0} (change : Change) (t : Tallies A) : Type 0 where
  pub moves : (q : ObjId) → moves_it q change ≡ true → 0 < count_at (of_objects t.moves) q
  pub deletes : (q : ObjId) → deletes_it q change ≡ true → 0 < count_at (of_objects t.deletes) q
  pub sets : (q : ObjId) (name : Name) → sets_it q name change ≡ true → 0 < count_at (of_props t.sets) (q, name)

-- for each field they have the number of these changes that write it
pub record AreTalliesOf {A : Type 0} (changes : List Change) (t : Tallies A) : Type 0 where
  pub tallies : AreTallies t
  pub moves : (q : ObjId) → count_at (of_objects t.moves) q ≡ count_by (moves_it q) changes
  pub deletes : (q : ObjId) → count_at (of_objects t.deletes) q ≡ count_by (deletes_it q) changes
  pub sets : (k : ObjId × Name) → count_at (of_props t.sets) k ≡ count_by (sets_it k.0 k.1) changes
