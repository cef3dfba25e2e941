-- Rows that aren't taken, among the others.
use Rattle.std.proofs.Common.{◌≡◌, ◌++◌, ◌∙◌, ◌+◌, ◌<◌, ◌⊎◌, ℕ, suc, List, [], ◌∷◌, length, refl, sym, ap, subst, inr, append_assoc, length-append, drop, drop-cons, get_or}
use Rattle.std.proofs.Math.Numerals.{suc-eq-add-one}
use Rattle.std.specs.FinMap as map
use Rattle.canvas_model.specs.Document.{Doc}
use Rattle.canvas_doc.proofs.Shallow.{same_doc}
use Rattle.canvas_journal.specs.Meaning.{Row}
use Rattle.app_admin.specs.RowFaults.{IsBadRow, IsClientFault, IsPlacingFault}
use Rattle.app_faults.specs.declared.row_fault.RowFault.{RowFault}

-- the rows, and the lines, before what is left
abbrev pub Begun : List Row → List Row → List ℕ → List ℕ → Type 0
Begun rows more lines left = (before : List Row) × (earlier : List ℕ) × (rows ≡ before ++ more) × (lines ≡ earlier ++ left) × (length before ≡ length earlier)

pub begin : (rows : List Row) (lines : List ℕ) → Begun rows rows lines lines
begin rows lines = ([], [], refl, refl, refl)

-- the next row isn't taken
pub bad_row : (rows more left_rows : List Row) (lines left later : List ℕ) (row : Row) (n : ℕ) (fault : RowFault) → Begun rows left_rows lines left → left_rows ≡ row ∷ more → left ≡ n ∷ later
    → (IsClientFault (length rows) row fault ⊎ IsPlacingFault (map.from_sorted rows) row fault) → IsBadRow rows lines n fault
bad_row rows more left_rows lines left later row n fault (before, earlier, among, line, together) here there is = record {
  row = row;
  rows_before = before;
  rows_behind = more;
  lines_before = earlier;
  lines_behind = later;
  among = among ∙ ap (λ (l : List Row). before ++ l) here;
  line = line ∙ ap (λ (l : List ℕ). earlier ++ l) there;
  together = together;
  why = is;
}

-- the next object of a document isn't taken
pub bad_object : (d : Doc) (more left_rows : List Row) (lines left later : List ℕ) (row : Row) (n : ℕ) (fault : RowFault) → Begun (map.entries d) left_rows lines left → left_rows ≡ row ∷ more
    → left ≡ n ∷ later → IsPlacingFault d row fault → IsBadRow (map.entries d) lines n fault
bad_object d more left_rows lines left later row n fault begun here there is =
    bad_row (map.entries d) more left_rows lines left later row n fault begun here there (inr (subst (λ (x : Doc). IsPlacingFault x row fault) (sym (same_doc d)) is))

-- the next row is taken
pub go_on : (rows more left_rows : List Row) (lines left later : List ℕ) (row : Row) (n : ℕ) → Begun rows left_rows lines left → left_rows ≡ row ∷ more → left ≡ n ∷ later → Begun rows more lines later
go_on rows more left_rows lines left later row n (before, earlier, among, line, together) here there = (
  before ++ row ∷ [],
  earlier ++ n ∷ [],
  among ∙ ap (λ (l : List Row). before ++ l) here ∙ sym (append_assoc before (row ∷ []) more),
  line ∙ ap (λ (l : List ℕ). earlier ++ l) there ∙ sym (append_assoc earlier (n ∷ []) later),
  length-append before (row ∷ []) ∙ ap (λ (k : ℕ). k + 1) together ∙ sym (length-append earlier (n ∷ [])),
)

-- the row of an index, and those behind it
pub rows_at : (rows : List Row) (i : ℕ) (row : Row) → i < length rows → row ≡ get_or rows i row → drop i rows ≡ row ∷ drop (i + 1) rows
rows_at rows i row less is =
    drop-cons rows i row less ∙ ap (λ (r : Row). r ∷ drop (suc i) rows) (sym is) ∙ ap (λ (k : ℕ). row ∷ drop k rows) (suc-eq-add-one i)
