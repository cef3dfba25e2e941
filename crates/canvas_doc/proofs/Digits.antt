-- What the first digits of a position tell of where its spot stands.
use Rattle.std.proofs.Common.{◌≡◌, ◌<◌, true, false, Option, Some, None, refl, sym, ap, subst, ◌∙◌}
use Rattle.std.specs.Option.{option_and_then, option_map}
use Rattle.std.specs.FinMap as map
use Rattle.std.specs.Cmp.{ranks}
use Rattle.std.specs.Cmp.Lexicographic.{slice_cmp, nat_list_cmp_total}
use Rattle.std.specs.Ordering.{MatchOrdering, is_lt, match_ordering, nat_cmp, ordering_reverse, ordering_then}
use Rattle.std.specs.declared.cmp.Ordering.{Ordering}
use Rattle.std.specs.declared.cmp.Ordering.TheVariants.{Less, Equal, Greater}
use Rattle.canvas_model.specs.declared.ObjId.{ObjId}
use Rattle.canvas_model.specs.Ids.{id_cmp}
use Rattle.canvas_model.specs.Document.{Doc, Object, Place, Pos, place_of}
use Rattle.canvas_model.specs.Position.{IsPosition}
use Rattle.canvas_pos.specs.Digits.{first_digits, FirstDigitsDecide}
use Rattle.canvas_doc.specs.Known.{HasObjects}
use Rattle.canvas_doc.specs.declared.spots.Spot.{Spot}
use Rattle.canvas_doc.specs.Spots.{Places, is_before, is_lower, new_spot, pos_at}

-- where an object of a document stands is a position
pub known_position : (d : Doc) → HasObjects d → (q : ObjId) (place : Place) → place_of d q ≡ Some place → IsPosition place.pos
known_position d has q place e =
    elim (map.get d q) as (λ o. map.get d q ≡ o → option_and_then (λ (x : Object). x.place) o ≡ Some place → IsPosition place.pos) [
      | None ↦ λ is e. absurd (let f : None ≡ Some place = e in cc)
      | Some o ↦ λ is e. ((has q o is).1.place place e).pos
    ] refl e

module _ (p : Places) (parent : ObjId) (pos : Pos) (id : ObjId) (s : Spot) (place : Place) (stands : p s.id ≡ Some place) (whole : new_spot s.id place ≡ s) (there : IsPosition place.pos) (here : IsPosition pos) (decide : FirstDigitsDecide) where
  own : s.digits ≡ first_digits place.pos
  own = ap (λ (x : Spot). x.digits) (sym whole)

  lower : is_lower (pos_at p s.id) s.id pos id ≡ is_lt (ordering_then (slice_cmp nat_cmp place.pos pos) (id_cmp s.id id))
  lower = ap (λ (o : Option Place). is_lower (option_map (λ x. x.pos) o) s.id pos id) stands

  ranked : (r : Ordering) → nat_cmp s.digits (first_digits pos) ≡ r → MatchOrdering r (first_digits place.pos < first_digits pos) (first_digits place.pos ≡ first_digits pos) (first_digits pos < first_digits place.pos)
  ranked r e = subst (λ r. MatchOrdering r (first_digits place.pos < first_digits pos) (first_digits place.pos ≡ first_digits pos) (first_digits pos < first_digits place.pos)) (ap (λ n. nat_cmp n (first_digits pos)) (sym own) ∙ e) (ranks (first_digits place.pos) (first_digits pos))

  smaller : nat_cmp s.digits (first_digits pos) ≡ Less → slice_cmp nat_cmp place.pos pos ≡ Less
  smaller e = decide place.pos pos there here (ranked Less e)

  larger : nat_cmp s.digits (first_digits pos) ≡ Greater → slice_cmp nat_cmp place.pos pos ≡ Greater
  larger e =
      let less : slice_cmp nat_cmp pos place.pos ≡ Less = decide pos place.pos here there (ranked Greater e) in
      nat_list_cmp_total.antisymm place.pos pos ∙ ap ordering_reverse less

  -- the parents and the digits decide, unless they are the same
  pub before_less : ordering_then (id_cmp s.parent parent) (nat_cmp s.digits (first_digits pos)) ≡ Less → true ≡ is_before p parent pos id s
  before_less = elim (id_cmp s.parent parent) as (λ r. ordering_then r (nat_cmp s.digits (first_digits pos)) ≡ Less → true ≡ match_ordering r true (is_lower (pos_at p s.id) s.id pos id) false) [
    | Less ↦ λ e. refl
    | Equal ↦ λ e. sym (lower ∙ ap (λ r. is_lt (ordering_then r (id_cmp s.id id))) (smaller e))
    | Greater ↦ λ e. absurd (let f : Greater ≡ Less = e in cc)
  ]

  pub before_more : ordering_then (id_cmp s.parent parent) (nat_cmp s.digits (first_digits pos)) ≡ Greater → false ≡ is_before p parent pos id s
  before_more = elim (id_cmp s.parent parent) as (λ r. ordering_then r (nat_cmp s.digits (first_digits pos)) ≡ Greater → false ≡ match_ordering r true (is_lower (pos_at p s.id) s.id pos id) false) [
    | Less ↦ λ e. absurd (let f : Less ≡ Greater = e in cc)
    | Equal ↦ λ e. sym (lower ∙ ap (λ r. is_lt (ordering_then r (id_cmp s.id id))) (larger e))
    | Greater ↦ λ e. refl
  ]
