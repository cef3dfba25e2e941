-- Why a line of an import isn't taken, and how that is told.
use Rattle.std.specs.Prelude.{◌≡◌, ◌<◌, ◌⊎◌, ◌==◌, ◌+◌, ◌-◌, ◌*◌, ◌^◌, ℕ, Bool, true, false, List, ◌∷◌, ◌++◌, codes, length, is_some, nat_lt, slice_get, option_map, Option, Some, None, if◌then◌else◌}
use Rattle.std.specs.FinMap as map
use Rattle.std.specs.Ordering.{is_lt}
use Rattle.serde_json.specs.Data.{Data, Items, no_items, item}
use Rattle.canvas_model.specs.declared.ObjId.{ObjId}
use Rattle.canvas_model.specs.declared.Kind.{Kind}
use Rattle.canvas_model.specs.Ids.{id_cmp, root, same_id}
use Rattle.canvas_model.specs.Document.{Doc, Place, kind_of, may_stand}
use Rattle.canvas_model.specs.Depth.{HasDepth, IsDepth, depth_limit}
use Rattle.canvas_model.specs.Sibling.{IsTaken}
use Rattle.canvas_forms.specs.JsonTree.{members}
use Rattle.canvas_forms.specs.Ids.{id_form}
use Rattle.canvas_forms.specs.Kinds.{kind_form}
use Rattle.canvas_wire.specs.Faults.{IsJson, IsOut}
use Rattle.canvas_wire.specs.Text.{SpellsRow, IsRowShape, IsRowJson, IsShallowRow}
use Rattle.canvas_journal.specs.Found.{AreRowTexts}
use Rattle.canvas_journal.specs.Meaning.{Row}
use Rattle.canvas_lines.specs.Lines.{lines_of}
use Rattle.app_admin.specs.Imports.{row_part, row_texts}
use Rattle.app_faults.specs.declared.row_fault.RowFault.{RowFault}
use Rattle.app_faults.specs.declared.row_fault.RowFault.TheVariants as why
use Rattle.app_faults.specs.declared.fault.Fault.{Fault}
use Rattle.app_faults.specs.declared.fault.Fault.TheVariants.{BadLine, NoDocument, Memory}

-- ---- ids

-- it is the root's, or that of a client
abbrev pub is_rooted_or_made : ObjId → Bool
is_rooted_or_made id = if id.client == 0 then same_id id root else true

-- why an id may not come first, or behind this one
abbrev pub order_fault : Option ObjId → ObjId → Option RowFault
order_fault None id = if same_id id root then None else Some why.Root
order_fault (Some last) id = if same_id id root then Some why.Root else (if is_lt (id_cmp last id) then None else Some why.Order)

-- why a row with this id may not come behind that one
abbrev pub id_fault : Option ObjId → ObjId → Option RowFault
id_fault last id = if is_rooted_or_made id then order_fault last id else Some why.Id

-- the id of the last of these rows
abbrev pub last_id : List Row → Option ObjId
last_id rows = option_map (λ row. row.0) (slice_get rows (length rows - 1))

-- ---- JSON trees

-- the id, where its numbers were in range
abbrev pub when_in_range : Option (ObjId × Bool) → Option ObjId
when_in_range None = None
when_in_range (Some (id, fits)) = if fits then Some id else None

-- the id that a JSON tree is
abbrev pub id_in : Data → Option ObjId
id_in d = when_in_range (id_form.read d)

-- the JSON tree is no kind
abbrev pub kind_fault : Data → Option RowFault
kind_fault d = if is_some (kind_form.read d) then None else Some why.Kind

-- the first of two faults
abbrev pub first_fault : Option RowFault → Option RowFault → Option RowFault
first_fault None second = second
first_fault (Some fault) second = Some fault

-- why a row with this id and kind may not come there
abbrev pub head_fault : Option ObjId → Option ObjId → Data → Option RowFault
head_fault last None kind = Some why.Id
head_fault last (Some id) kind = first_fault (id_fault last id) (kind_fault kind)

-- what the first two of four members have that no row may have there
abbrev pub four_fault : Option ObjId → Items → Option RowFault
four_fault last no_items = Some why.NotARow
four_fault last (item a no_items) = Some why.NotARow
four_fault last (item a (item b no_items)) = Some why.NotARow
four_fault last (item a (item b (item c no_items))) = Some why.NotARow
four_fault last (item a (item b (item c (item d no_items)))) = head_fault last (id_in a) b
four_fault last (item a (item b (item c (item d (item e ds))))) = Some why.NotARow

-- the same of a JSON tree that may be no array
abbrev pub members_fault : Option ObjId → Option Items → Option RowFault
members_fault last None = Some why.NotARow
members_fault last (Some ds) = four_fault last ds

-- why a JSON tree is no row there, as far as its id and its kind say it
abbrev pub tree_fault : Option ObjId → Data → Option RowFault
tree_fault last d = members_fault last (members d)

-- why it is none, where these say nothing
abbrev pub IsRestFault : Data → RowFault → Type 0
IsRestFault d why.Parts = IsRowShape d → ⊥
IsRestFault d why.Range = IsOut IsRowShape IsRowJson d
IsRestFault d why.TooDeepValue = (row : Row) × IsRowJson d row × (IsShallowRow row → ⊥)
IsRestFault d fault = ⊥

-- ---- lines

-- why a text may not stand there: it is a row, but for its id; or JSON of no row; or no JSON
abbrev pub IsTextFault : Option ObjId → List ℕ → RowFault → Type 0
IsTextFault last text fault =
    ((row : Row) × SpellsRow text row × (id_fault last row.0 ≡ Some fault))
    ⊎ ((d : Data) × IsJson text d × ((tree_fault last d ≡ Some fault) ⊎ ((tree_fault last d ≡ None) × IsRestFault d fault)))
    ⊎ ((fault ≡ why.NotARow) × ((d : Data) → IsJson text d → ⊥))

-- why the text of a line of this number isn't taken
abbrev pub IsLineFault : ℕ → Option ObjId → List ℕ → Fault → Type 0
IsLineFault number last text (BadLine n fault) = (n ≡ number) × IsTextFault last text fault
IsLineFault number last text Memory = Unit {0}
IsLineFault number last text fault = ⊥

-- the first line of an input that isn't taken: those before it are rows
pub record IsFirstBadRow (input : List ℕ) (n : ℕ) (fault : RowFault) : Type 0 where
  pub done : List (List ℕ)
  pub line : List ℕ
  pub more : List (List ℕ)
  pub text : List ℕ
  pub rows : List Row
  pub lines : lines_of input ≡ done ++ line ∷ more
  pub number : length done + 1 < 2 ^ 64 → n ≡ length done + 1
  pub before : AreRowTexts (row_texts done) rows
  pub part : row_part line ≡ Some text
  pub why : IsTextFault (last_id rows) text fault

-- why an input isn't rows
abbrev pub IsReadFault : List ℕ → Fault → Type 0
IsReadFault input (BadLine n fault) = IsFirstBadRow input n fault
IsReadFault input Memory = Unit {0}
IsReadFault input fault = ⊥

-- ---- documents

-- the greatest client that an object among so many may have
abbrev pub most_client : ℕ → ℕ
most_client count = if nat_lt count 1001 then 1000000 else (if nat_lt count 16778 then count * 1000 else 16777216)

-- why an object may not stand at its place, as far as its parent and its siblings say it
abbrev pub IsPlaceFault : Doc → Row → Place → RowFault → Type 0
IsPlaceFault d row place why.NoParent = kind_of d place.parent ≡ None
IsPlaceFault d row place why.ParentKind = (parent : Kind) × (kind_of d place.parent ≡ Some parent) × (may_stand row.1.kind parent ≡ false)
IsPlaceFault d row place why.Position = (parent : Kind) × (kind_of d place.parent ≡ Some parent) × (may_stand row.1.kind parent ≡ true) × IsTaken d place.parent row.0 place.pos
IsPlaceFault d row place fault = ⊥

-- why an object may not stand so far from the root
abbrev pub IsDepthFault : Doc → ObjId → RowFault → Type 0
IsDepthFault d id why.TooDeep = (n : ℕ) × HasDepth d id n × (depth_limit < n)
IsDepthFault d id why.Circle = IsDepth d id None
IsDepthFault d id fault = ⊥

-- why a row of a document isn't taken
abbrev pub IsPlacingFault : Doc → Row → RowFault → Type 0
IsPlacingFault d row fault = ((place : Place) × (row.1.place ≡ Some place) × IsPlaceFault d row place fault) ⊎ IsDepthFault d row.0 fault

-- why a row among so many isn't taken
abbrev pub IsClientFault : ℕ → Row → RowFault → Type 0
IsClientFault count row (why.Client most) = (most ≡ most_client count) × (most < row.0.client)
IsClientFault count row fault = ⊥

-- a row isn't taken whose line has this number, for this reason
pub record IsBadRow (rows : List Row) (lines : List ℕ) (n : ℕ) (fault : RowFault) : Type 0 where
  pub row : Row
  pub rows_before : List Row
  pub rows_behind : List Row
  pub lines_before : List ℕ
  pub lines_behind : List ℕ
  pub among : rows ≡ rows_before ++ row ∷ rows_behind
  pub line : lines ≡ lines_before ++ n ∷ lines_behind
  pub together : length rows_before ≡ length lines_before
  pub why : IsClientFault (length rows) row fault ⊎ IsPlacingFault (map.from_sorted rows) row fault

-- why rows make no document
abbrev pub IsMakeFault : List Row → List ℕ → Fault → Type 0
IsMakeFault rows lines (BadLine n fault) = IsBadRow rows lines n fault
IsMakeFault rows lines NoDocument = Unit {0}
IsMakeFault rows lines Memory = Unit {0}
IsMakeFault rows lines fault = ⊥
