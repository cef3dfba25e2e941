-- Documents as rows: their texts are of their kinds, and how deep their JSON trees nest.
use Rattle.std.specs.Prelude.{map as list_map}
use Rattle.std.proofs.Common.{◌≡◌, ◌++◌, ℕ, ◌≤◌, nat_le, max, List, [], ◌∷◌, get_or, All, true, false, Option, Some, None, refl, ap, sym, subst, ◌∙◌, arith}
use Rattle.std.specs.List.{list_all}
use Rattle.std.specs.Cmp.{IsTotalOrder}
use Rattle.std.specs.FinMap as map
use Rattle.std.specs.declared.cmp.Ordering.{Ordering}
use Rattle.std.specs.declared.cmp.Ordering.TheVariants.{Equal}
use Rattle.std.proofs.lemmas.Cmp.{tied_itself}
use Rattle.std.proofs.lemmas.List.{get_or_default}
use Rattle.std.proofs.lemmas.List.Elements.{All-head, All-tail}
use Rattle.std.proofs.lemmas.List.Sums.{AllPass-from_list_all, list_all-from_AllPass}
use Rattle.serde_json.specs.Data as D
use Rattle.serde_json.specs.Written.{has_float, items_have_float}
use Rattle.serde_json.specs.View.{items_of}
use Rattle.canvas_model.specs.declared.ObjId.{ObjId}
use Rattle.canvas_model.specs.declared.Kind.{Kind}
use Rattle.canvas_model.specs.declared.Kind.TheVariants.{Document, Page, Frame, Shape, Text}
use Rattle.canvas_model.specs.Value.{Value, IsShallow, depth}
use Rattle.canvas_model.specs.Document.{Doc, Object, Place, Name, IsDocument}
use Rattle.canvas_model.specs.Storable.{IsShallowDoc, IsShallowObject}
use Rattle.canvas_value.specs.Props.{IsProp}
use Rattle.canvas_codec.specs.Parts.{each_test, each_written, maybe_test, maybe_written}
use Rattle.canvas_value.proofs.Tests.{both_true}
use Rattle.canvas_value.proofs.NameText.{is_name-from}
use Rattle.canvas_codec.proofs.Texts.{no_float, nests}
use Rattle.canvas_doc.specs.Known.{IsObject, IsPlace, IsRow, HasObjects}
use Rattle.canvas_doc.proofs.Maps.{ids_total}
use Rattle.canvas_doc.proofs.Props.{names_total}
use Rattle.canvas_forms.specs.Kinds.{kind_form}
use Rattle.canvas_forms.specs.Places.{place_form}
use Rattle.canvas_forms.specs.Rows.{prop_form, row_form, rows_form}
use Rattle.canvas_forms.specs.RowOrder.{are_in_order}
use Rattle.canvas_doc.specs.Shallow.{is_shallow_row}
use Rattle.canvas_forms.proofs.Tested.{t_true}
use Rattle.canvas_forms.proofs.Members.{each_view}
use Rattle.canvas_forms.proofs.Positions.{is_position_from}
use Rattle.canvas_forms.proofs.Orders.{document_ordered}
use Rattle.canvas_doc.proofs.Shallow.{each_entry, object_told, same_doc}

-- ---- the texts of rows are of their kinds

pub kind_sound : (kind : Kind) → kind_form.sound kind ≡ true
kind_sound Document = refl
kind_sound Page = refl
kind_sound Frame = refl
kind_sound Shape = refl
kind_sound Text = refl

place_sound : (place : Option Place) → ((p : Place) → place ≡ Some p → IsPlace p) → maybe_test place_form.sound place ≡ true
place_sound None h = refl
place_sound (Some place) h = rw (is_position_from place.pos (h place refl).pos) refl

props_sound : (es : List (Name × Value)) → All IsProp es → each_test prop_form.sound es ≡ true
props_sound [] h = refl
props_sound (e ∷ es) h = rw (is_name-from e.0 (All-head IsProp e es h).name, props_sound es (All-tail IsProp e es h)) refl

pub row_sound : (e : ObjId × Object) → IsObject e.1 → row_form.sound e ≡ true
row_sound e h =
    let props = props_sound (map.entries e.1.props) (each_entry names_total e.1.props IsProp (λ name value found. h.props name value found)) in
    rw (kind_sound e.1.kind, place_sound e.1.place h.place, props, t_true _ (map.entries_sorted e.1.props)) refl

each_sound : (es : List (ObjId × Object)) → All IsRow es → each_test row_form.sound es ≡ true
each_sound [] h = refl
each_sound (e ∷ es) h = both_true _ _ (row_sound e (All-head IsRow e es h).1) (each_sound es (All-tail IsRow e es h))

pub rows_sound : (d : Doc) → HasObjects d → rows_form.sound (map.entries d) ≡ true
rows_sound d has = each_sound (map.entries d) (each_entry ids_total d IsRow has)

-- ---- the rows of a document stand in order

pub doc_ordered : (d : Doc) → IsDocument d → are_in_order (rows_form.write (map.entries d)) ≡ true
doc_ordered d is = document_ordered (map.entries d) (record { sorted = map.entries_sorted d; document = subst IsDocument (sym (same_doc d)) is })

-- ---- rows that are written one by one

no_more : (ws : List D.Data) → ws ++ [] ≡ ws
no_more [] = refl
no_more (w ∷ ws) = ap (λ r. w ∷ r) (no_more ws)

pub rows_written : (ws : List D.Data) (left es : List (ObjId × Object)) → ws ++ list_map row_form.write left ≡ list_map row_form.write es → left ≡ [] → items_of ws ≡ each_written row_form.write es
rows_written ws left es e none =
    ap items_of (sym (no_more ws) ∙ ap (λ l. ws ++ list_map row_form.write l) (sym none) ∙ e) ∙ each_view row_form.write es

-- ---- rows have no floats

props_no_float : (es : List (Name × Value)) → items_have_float (each_written prop_form.write es) ≡ false
props_no_float [] = refl
props_no_float (e ∷ es) = rw (no_float e.1, props_no_float es) refl

place_no_float : (place : Option Place) → has_float (maybe_written place_form.write place) ≡ false
place_no_float None = refl
place_no_float (Some place) = refl

pub row_no_float : (e : ObjId × Object) → has_float (row_form.write e) ≡ false
row_no_float e = rw (place_no_float e.1.place, props_no_float (map.entries e.1.props)) refl

each_no_float : (es : List (ObjId × Object)) → items_have_float (each_written row_form.write es) ≡ false
each_no_float [] = refl
each_no_float (e ∷ es) = rw (row_no_float e, each_no_float es) refl

pub rows_no_float : (es : List (ObjId × Object)) → has_float (rows_form.write es) ≡ false
rows_no_float es = each_no_float es

-- ---- rows nest little deeper than their values

props_nest : (es : List (Name × Value)) → All (λ e. IsShallow e.1) es → D.items_depth (each_written prop_form.write es) ≤ 18
props_nest [] h = omega arith
props_nest (e ∷ es) h =
    let here : IsShallow e.1 = All-head (λ (e : Name × Value). IsShallow e.1) e es h in
    let value = nests e.1 in
    let rest : D.items_depth (each_written prop_form.write es) ≤ 18 = props_nest es (All-tail (λ (e : Name × Value). IsShallow e.1) e es h) in
    omega arith

place_nests : (place : Option Place) → D.depth (maybe_written place_form.write place) ≤ 2
place_nests None = omega arith
place_nests (Some place) = omega arith

row_nests : (e : ObjId × Object) → IsShallowObject e.1 → D.depth (row_form.write e) ≤ 20
row_nests e h =
    let place = place_nests e.1.place in
    let props : D.items_depth (each_written prop_form.write (map.entries e.1.props)) ≤ 18 = props_nest (map.entries e.1.props) (each_entry names_total e.1.props (λ e. IsShallow e.1) (λ name value found. h name value found)) in
    omega arith

max_within : (a b : ℕ) → a ≤ 20 → b ≤ 20 → max a b ≤ 20
max_within a b p q = omega (arith, p, q)

each_nests : (es : List (ObjId × Object)) → All (λ e. IsShallowObject e.1) es → D.items_depth (each_written row_form.write es) ≤ 20
each_nests [] h = omega arith
each_nests (e ∷ es) h =
    let here : D.depth (row_form.write e) ≤ 20 = row_nests e (All-head (λ (e : ObjId × Object). IsShallowObject e.1) e es h) in
    let rest : D.items_depth (each_written row_form.write es) ≤ 20 = each_nests es (All-tail (λ (e : ObjId × Object). IsShallowObject e.1) e es h) in
    max_within (D.depth (row_form.write e)) (D.items_depth (each_written row_form.write es)) here rest

pub rows_nest : (d : Doc) → IsShallowDoc d → D.items_depth (each_written row_form.write (map.entries d)) ≤ 20
rows_nest d shallow = each_nests (map.entries d) (each_entry ids_total d (λ e. IsShallowObject e.1) (λ q o found. shallow q o found))

-- ---- whether values are too deep, row by row

-- a row whose values aren't too deep nests little deeper
pub shallow_row_nests : (e : ObjId × Object) → is_shallow_row e ≡ true → D.depth (row_form.write e) ≤ 20
shallow_row_nests e h = row_nests e (object_told e.1 h)
