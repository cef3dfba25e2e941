-- Rows that are written are lines, and are read back.
use Rattle.std.proofs.Common.{◌≡◌, ◌-◌, nat_lt, true, Bool, ℕ, false, List, [], ◌∷◌, ◌++◌, length, map, Option, Some, refl, sym, ap, subst, ◌∙◌, append_assoc, arith}
use Rattle.std.specs.Prelude.{slice_get}
use Rattle.std.proofs.lemmas.List.{length-append}
use Rattle.std.proofs.lemmas.Bool.Decides.{nat_tests}
use lib.Seq.{take-append_seam}
use Rattle.serde_json.specs.Data.{Data, array, Items, no_items, item}
use Rattle.serde_json.specs.Written.{comma_if, compact_text, items_text}
use Rattle.canvas_forms.specs.Rows.{row_form}
use Rattle.canvas_lines.specs.Lines.{lines_of, onto}
use Rattle.canvas_wire.specs.Text.{row_text}
use Rattle.canvas_journal.specs.Found.{AreRowTexts}
use Rattle.canvas_journal.specs.Meaning.{Row}
use Rattle.canvas_journal.proofs.Rows.{each_once}
use Rattle.app_admin.specs.declared.writing_rows.Layout.{Layout}
use Rattle.app_admin.specs.declared.writing_rows.Layout.TheVariants.{Array, Lines}
use Rattle.app_admin.specs.Imports.{before, row_part, row_texts}
use Rattle.app_admin.specs.Texts.{end_of_rows, joined_rows, rows_text}
use Rattle.app_admin.proofs.OneLine.{IsOneLine, one-append, text_line}

-- ---- a line

line_ends : (line rest : List ℕ) → IsOneLine line → lines_of (line ++ 10 ∷ rest) ≡ line ∷ lines_of rest
line_ends [] rest one = refl
line_ends (b ∷ line) rest one = rw one.0 (ap (onto b) (line_ends line rest one.1))

-- the last of a text
at_end : (l : List ℕ) (x : ℕ) → slice_get (l ++ x ∷ []) (length l) ≡ Some x
at_end [] x = refl
at_end (y ∷ l) x = at_end l x

one_more : (l : List ℕ) (x : ℕ) → length (l ++ x ∷ []) - 1 ≡ length l
one_more l x = omega (arith, length-append l (x ∷ []))

last_of : (l : List ℕ) (x : ℕ) → slice_get (l ++ x ∷ []) (length (l ++ x ∷ []) - 1) ≡ Some x
last_of l x = rw (one_more l x) (at_end l x)

-- ---- the text of a row

-- items end in a bracket
items_end : (later : Bool) (ds : Items) → (front : List ℕ) × (items_text later ds ≡ front ++ 93 ∷ [])
items_end later no_items = ([], refl)
items_end later (item d ds) =
    let more = items_end true ds in
    (comma_if later ++ (compact_text d ++ more.0), ap (λ (l : List ℕ). comma_if later ++ (compact_text d ++ l)) more.1 ∙ ap (λ (l : List ℕ). comma_if later ++ l) (sym (append_assoc (compact_text d) more.0 (93 ∷ []))) ∙ sym (append_assoc (comma_if later) (compact_text d ++ more.0) (93 ∷ [])))

-- a text of one line, whose part is itself, also where a comma follows
record IsRowLine (t : List ℕ) : Type 0 where
  one : IsOneLine t
  part : row_part t ≡ Some t
  comma : row_part (t ++ 44 ∷ []) ≡ Some t

bracketed : (front : List ℕ) → IsOneLine (91 ∷ (front ++ 93 ∷ [])) → IsRowLine (91 ∷ (front ++ 93 ∷ []))
bracketed front one = record {
  one = one;
  part = rw (long, last_of (91 ∷ front) 93) refl;
  comma = rw (longer, last_of (91 ∷ (front ++ 93 ∷ [])) 44, one_more (91 ∷ (front ++ 93 ∷ [])) 44) (ap (λ (l : List ℕ). Some l) (take-append_seam (91 ∷ (front ++ 93 ∷ [])) (44 ∷ [])));
}
  where
    long : nat_lt (length (91 ∷ (front ++ 93 ∷ []))) 2 ≡ false
    long = grind (arith, nat_tests, length-append front (93 ∷ []))

    longer : nat_lt (length ((91 ∷ (front ++ 93 ∷ [])) ++ 44 ∷ [])) 2 ≡ false
    longer = grind (arith, nat_tests, length-append (front ++ 93 ∷ []) (44 ∷ []), length-append front (93 ∷ []))

array_line : (ds : Items) → IsRowLine (compact_text (array ds))
array_line ds =
    let ends = items_end false ds in
    let same : 91 ∷ (ends.0 ++ 93 ∷ []) ≡ compact_text (array ds) = ap (λ (l : List ℕ). 91 ∷ l) (sym ends.1) in
    subst IsRowLine same (bracketed ends.0 (subst IsOneLine (sym same) (text_line (array ds))))

abbrev items_in : Data → Items
items_in (array ds) = ds
items_in _ = no_items

row_line : (row : Row) → IsRowLine (row_text row)
row_line row = array_line (items_in (row_form.write row))

-- ---- all rows

lines_back : (rows : List Row) (t : List ℕ) → IsRowLine t → row_texts (lines_of (t ++ (joined_rows Lines true rows ++ end_of_rows Lines))) ≡ t ∷ map row_text rows
lines_back [] t is = ap row_texts (line_ends t [] is.one) ∙ ap (λ (o : Option (List ℕ)). before o []) is.part
lines_back (row ∷ rows) t is =
    let rest = row_text row ++ (joined_rows Lines true rows ++ end_of_rows Lines) in
    let same : t ++ (joined_rows Lines true (row ∷ rows) ++ end_of_rows Lines) ≡ t ++ 10 ∷ rest = ap (λ (l : List ℕ). t ++ 10 ∷ l) (append_assoc (row_text row) (joined_rows Lines true rows) (end_of_rows Lines)) in
    ap (λ (l : List ℕ). row_texts (lines_of l)) same
    ∙ ap row_texts (line_ends t rest is.one)
    ∙ ap (λ (o : Option (List ℕ)). before o (row_texts (lines_of rest))) is.part
    ∙ ap (λ (l : List (List ℕ)). t ∷ l) (lines_back rows (row_text row) (row_line row))

array_back : (rows : List Row) (t : List ℕ) → IsRowLine t → row_texts (lines_of (t ++ (joined_rows Array true rows ++ end_of_rows Array))) ≡ t ∷ map row_text rows
array_back [] t is = ap row_texts (line_ends t (93 ∷ 10 ∷ []) is.one) ∙ ap (λ (o : Option (List ℕ)). before o []) is.part
array_back (row ∷ rows) t is =
    let rest = row_text row ++ (joined_rows Array true rows ++ end_of_rows Array) in
    let same : t ++ (joined_rows Array true (row ∷ rows) ++ end_of_rows Array) ≡ (t ++ 44 ∷ []) ++ 10 ∷ rest =
    ap (λ (l : List ℕ). t ++ 44 ∷ 10 ∷ l) (append_assoc (row_text row) (joined_rows Array true rows) (end_of_rows Array)) ∙ sym (append_assoc t (44 ∷ []) (10 ∷ rest)) in
    ap (λ (l : List ℕ). row_texts (lines_of l)) same
    ∙ ap row_texts (line_ends (t ++ 44 ∷ []) rest (one-append t (44 ∷ []) is.one (refl, tt)))
    ∙ ap (λ (o : Option (List ℕ)). before o (row_texts (lines_of rest))) is.comma
    ∙ ap (λ (l : List (List ℕ)). t ∷ l) (array_back rows (row_text row) (row_line row))

pub each_row_has_a_line : (layout : Layout) (rows : List Row) → row_texts (lines_of (rows_text layout rows)) ≡ map row_text rows
each_row_has_a_line Lines [] = refl
each_row_has_a_line Lines (row ∷ rows) = ap (λ (l : List ℕ). row_texts (lines_of l)) (append_assoc (row_text row) (joined_rows Lines true rows) (end_of_rows Lines)) ∙ lines_back rows (row_text row) (row_line row)
each_row_has_a_line Array [] = refl
each_row_has_a_line Array (row ∷ rows) = ap (λ (l : List ℕ). row_texts (lines_of l)) (append_assoc (row_text row) (joined_rows Array true rows) (end_of_rows Array)) ∙ array_back rows (row_text row) (row_line row)

pub rows_come_back : (layout : Layout) (rows others : List Row) → AreRowTexts (map row_text rows) rows → AreRowTexts (row_texts (lines_of (rows_text layout rows))) others → others ≡ rows
rows_come_back layout rows others are read =
    each_once (map row_text rows) others rows (subst (λ (ts : List (List ℕ)). AreRowTexts ts others) (each_row_has_a_line layout rows) read) are
