-- The numbers of what is written are in their ranges, as far as their types say it.
use Rattle.std.proofs.Common.{◌≡◌, ℕ, ◌<◌, ◌≤◌, List, [], ◌∷◌, All, true, Option, Some, None, refl, arith}
use Rattle.std.specs.FinMap as map
use Rattle.std.proofs.lemmas.List.Elements.{All-head, All-tail}
use Rattle.canvas_model.specs.declared.ObjId.{ObjId}
use Rattle.canvas_model.specs.declared.Reason.{Reason}
use Rattle.canvas_model.specs.declared.Reason.TheVariants.{IsRoot, BadId, Gone, ParentGone, BadParent, Cycle, Crowded, TooDeep}
use Rattle.canvas_model.specs.Ids.{IsId}
use Rattle.canvas_model.specs.Document.{Doc, Object, Name, Place}
use Rattle.canvas_model.specs.Value.{Value}
use Rattle.canvas_model.specs.Change.{Change, Create, Set, Move, Delete}
use Rattle.canvas_value.specs.Props.{IsProp}
use Rattle.canvas_codec.specs.Parts.{each_test, maybe_test}
use Rattle.canvas_value.proofs.Tests.{both_true}
use Rattle.canvas_doc.specs.Known.{IsPlace, IsChange, IsRow, HasObjects}
use Rattle.canvas_doc.proofs.Maps.{ids_total}
use Rattle.canvas_doc.proofs.Props.{names_total}
use Rattle.canvas_forms.specs.Version.{version_two}
use Rattle.canvas_forms.specs.Ids.{client_form, version_form, id_form}
use Rattle.canvas_forms.specs.Places.{place_form}
use Rattle.canvas_forms.specs.Changes.{change_form}
use Rattle.canvas_forms.specs.Outcomes.{reason_form}
use Rattle.canvas_forms.specs.Rows.{prop_form, row_form, rows_form}
use Rattle.canvas_doc.proofs.Shallow.{each_entry}
use Rattle.canvas_forms.proofs.Positions.{is_position_from}

pub client_fits : (n : ℕ) → n < 4294967296 → client_form.fits n ≡ true
client_fits n h = grind (arith, h)

pub version_fits : (n : ℕ) → n ≤ 4611686018427387904 → version_form.fits n ≡ true
version_fits n h = grind (arith, h)

pub few_within : (n : ℕ) → version_form.fits n ≡ true → n ≤ 4611686018427387904
few_within n h = grind (arith, h)

-- ---- ids, places and changes

id_fits : (id : ObjId) → IsId id → id_form.fits id ≡ true
id_fits id h = rw (client_fits id.client h.0, client_fits id.counter h.1) refl

pub ids_fit : (ids : List ObjId) → All IsId ids → each_test id_form.fits ids ≡ true
ids_fit [] h = refl
ids_fit (id ∷ ids) h = rw (id_fits id (All-head IsId id ids h), ids_fit ids (All-tail IsId id ids h)) refl

pub place_fits : (place : Place) → IsPlace place → place_form.fits place ≡ true
place_fits place h = rw (id_fits place.parent h.parent) refl

pub place_sound : (place : Place) → IsPlace place → place_form.sound place ≡ true
place_sound place h = rw (is_position_from place.pos h.pos) refl

pub change_fits : (change : Change) → IsChange change → change_form.fits change ≡ true
change_fits (Create id kind place) h = rw (id_fits id h.0, place_fits place h.1) refl
change_fits (Set id name (Some value)) h = rw (id_fits id h.0, h.1.range value refl) refl
change_fits (Set id name None) h = rw (id_fits id h.0) refl
change_fits (Move id place) h = rw (id_fits id h.0, place_fits place h.1) refl
change_fits (Delete id) h = rw (id_fits id h) refl

pub reason_fits : (reason : Reason) → (reason_form version_two).fits reason ≡ true
reason_fits IsRoot = refl
reason_fits BadId = refl
reason_fits Gone = refl
reason_fits ParentGone = refl
reason_fits BadParent = refl
reason_fits Cycle = refl
reason_fits Crowded = refl
reason_fits TooDeep = refl

-- ---- rows

maybe_place_fits : (place : Option Place) → ((p : Place) → place ≡ Some p → IsPlace p) → maybe_test place_form.fits place ≡ true
maybe_place_fits None h = refl
maybe_place_fits (Some place) h = place_fits place (h place refl)

props_fit : (es : List (Name × Value)) → All IsProp es → each_test prop_form.fits es ≡ true
props_fit [] h = refl
props_fit (e ∷ es) h = rw ((All-head IsProp e es h).range, props_fit es (All-tail IsProp e es h)) refl

pub row_fits : (e : ObjId × Object) → IsRow e → row_form.fits e ≡ true
row_fits e h =
    let props = props_fit (map.entries e.1.props) (each_entry names_total e.1.props IsProp (λ name value found. h.1.props name value found)) in
    rw (id_fits e.0 h.0, maybe_place_fits e.1.place h.1.place, props) refl

each_fits : (es : List (ObjId × Object)) → All IsRow es → each_test row_form.fits es ≡ true
each_fits [] h = refl
each_fits (e ∷ es) h = both_true _ _ (row_fits e (All-head IsRow e es h)) (each_fits es (All-tail IsRow e es h))

pub rows_fit : (d : Doc) → HasObjects d → rows_form.fits (map.entries d) ≡ true
rows_fit d has = each_fits (map.entries d) (each_entry ids_total d IsRow has)
