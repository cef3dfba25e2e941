-- Rows that are read line by line.
use Rattle.std.proofs.Common.{◌≡◌, ◌++◌, ◌∙◌, ◌+◌, ℕ, List, [], ◌∷◌, Option, Some, None, refl, ap, sym, subst, append_assoc, append-nil, arith, length-append}
use Rattle.std.proofs.Math.Nat.{min-eq_left}
use Rattle.std.specs.Prelude.{◌^◌, ◌<◌, ◌≤◌, ◌-◌, length, min}
use Rattle.canvas_wire.specs.Text.{SpellsRow}
use Rattle.canvas_journal.specs.Meaning.{Row, IsRowText}
use Rattle.canvas_journal.specs.Found.{AreRowTexts}
use Rattle.canvas_journal.proofs.Rows.{each-append}
use Rattle.canvas_lines.specs.Lines.{lines_of}
use Rattle.app_admin.specs.Imports.{before, row_part, row_texts}
use Rattle.app_admin.specs.RowFaults.{IsLineFault, IsReadFault, last_id}
use Rattle.app_faults.specs.declared.fault.Fault.{Fault}
use Rattle.app_faults.specs.declared.fault.Fault.TheVariants.{NotAnOrigin, NotAHost, NotAUrl, NotAName, WorkerCount, NoPage, StopFile, PortInUse, PortDenied, NoPort, InUse, Denied, AboveDenied, NoDescriptor, NoRoom, Device, Taken, NoSegment, Gone, Lost, NotKept, Identity, ChangedIdentity, Busy, Damaged, TooLarge, NoSpace, NoStore, BadLine, NoDocument, Stream, NoThread, NoKick, JournalFailed, StoreFailed, LeaseEnded, Stopped, Memory}

row_text_of : (text : List ℕ) (row : Row) → SpellsRow text row → IsRowText text row
unfolding IsRowText
row_text_of text row spells = spells

-- one more text is one more row
one_more : (done : List (List ℕ)) (rows : List Row) (text : List ℕ) (row : Row) → AreRowTexts done rows → SpellsRow text row → AreRowTexts (done ++ text ∷ []) (rows ++ row ∷ [])
one_more done rows text row are spells = each-append done (text ∷ []) rows (row ∷ []) are (row_text_of text row spells, tt)

before-append : (o : Option (List ℕ)) (ts us : List (List ℕ)) → before o ts ++ us ≡ before o (ts ++ us)
before-append None ts us = refl
before-append (Some t) ts us = refl

row_texts-append : (ls ms : List (List ℕ)) → row_texts (ls ++ ms) ≡ row_texts ls ++ row_texts ms
row_texts-append [] ms = refl
row_texts-append (l ∷ ls) ms = ap (before (row_part l)) (row_texts-append ls ms) ∙ sym (before-append (row_part l) (row_texts ls) (row_texts ms))

-- the line is a row
pub row_on : (done : List (List ℕ)) (line text : List ℕ) (rows new : List Row) (row : Row) → AreRowTexts (row_texts done) rows → row_part line ≡ Some text → SpellsRow text row
    → new ≡ rows ++ row ∷ [] → AreRowTexts (row_texts (done ++ line ∷ [])) new
row_on done line text rows new row are part spells grown =
    subst (λ (r : List Row). AreRowTexts (row_texts (done ++ line ∷ [])) r) (sym grown)
    (subst (λ (t : List (List ℕ)). AreRowTexts t (rows ++ row ∷ []))
    (sym (row_texts-append done (line ∷ []) ∙ ap (λ (o : Option (List ℕ)). row_texts done ++ before o []) part))
    (one_more (row_texts done) rows text row are spells))

-- the line is passed over
pub row_off : (done : List (List ℕ)) (line : List ℕ) (rows : List Row) → AreRowTexts (row_texts done) rows → row_part line ≡ None → AreRowTexts (row_texts (done ++ line ∷ [])) rows
row_off done line rows are part =
    subst (λ (t : List (List ℕ)). AreRowTexts t rows)
    (sym (row_texts-append done (line ∷ []) ∙ ap (λ (o : Option (List ℕ)). row_texts done ++ before o []) part ∙ append-nil (row_texts done))) are

-- the lines go on
pub line_on : (done left more whole : List (List ℕ)) (line : List ℕ) → left ≡ line ∷ more → done ++ left ≡ whole → (done ++ line ∷ []) ++ more ≡ whole
line_on done left more whole line is all = append_assoc done (line ∷ []) more ∙ ap (λ (l : List (List ℕ)). done ++ l) (sym is) ∙ all

-- one more line is counted
pub count_on : (number next : ℕ) (done : List (List ℕ)) (line : List ℕ) → next ≡ min (number + 1) (2 ^ 64 - 1) → (length done < 2 ^ 64 → number ≡ length done)
    → length (done ++ line ∷ []) < 2 ^ 64 → next ≡ length (done ++ line ∷ [])
count_on number next done line is counted few =
    let long : length (done ++ line ∷ []) ≡ length done + 1 = length-append done (line ∷ []) in
    let same : number ≡ length done = counted (omega (arith, long, few)) in
    let least : number + 1 ≤ 2 ^ 64 - 1 = omega (arith, long, few, same) in
    is ∙ min-eq_left least ∙ ap (λ (k : ℕ). k + 1) same ∙ sym long

-- a line that isn't taken is the first
pub read_fault : (input : List ℕ) (done more : List (List ℕ)) (line text : List ℕ) (rows : List Row) (number : ℕ) (fault : Fault) → lines_of input ≡ done ++ line ∷ more
    → (length done + 1 < 2 ^ 64 → number ≡ length done + 1) → AreRowTexts (row_texts done) rows → row_part line ≡ Some text → IsLineFault number (last_id rows) text fault → IsReadFault input fault
read_fault input done more line text rows number (BadLine n fault) lines counted are part (same, why) = record {
  done = done;
  line = line;
  more = more;
  text = text;
  rows = rows;
  lines = lines;
  number = λ few. same ∙ counted few;
  before = are;
  part = part;
  why = why;
}
read_fault input done more line text rows number Memory lines counted are part is = tt
read_fault input done more line text rows number NotAnOrigin lines counted are part is = absurd is
read_fault input done more line text rows number NotAHost lines counted are part is = absurd is
read_fault input done more line text rows number NotAUrl lines counted are part is = absurd is
read_fault input done more line text rows number NotAName lines counted are part is = absurd is
read_fault input done more line text rows number WorkerCount lines counted are part is = absurd is
read_fault input done more line text rows number NoPage lines counted are part is = absurd is
read_fault input done more line text rows number StopFile lines counted are part is = absurd is
read_fault input done more line text rows number PortInUse lines counted are part is = absurd is
read_fault input done more line text rows number PortDenied lines counted are part is = absurd is
read_fault input done more line text rows number NoPort lines counted are part is = absurd is
read_fault input done more line text rows number InUse lines counted are part is = absurd is
read_fault input done more line text rows number Denied lines counted are part is = absurd is
read_fault input done more line text rows number AboveDenied lines counted are part is = absurd is
read_fault input done more line text rows number NoDescriptor lines counted are part is = absurd is
read_fault input done more line text rows number NoRoom lines counted are part is = absurd is
read_fault input done more line text rows number Device lines counted are part is = absurd is
read_fault input done more line text rows number Taken lines counted are part is = absurd is
read_fault input done more line text rows number NoSegment lines counted are part is = absurd is
read_fault input done more line text rows number Gone lines counted are part is = absurd is
read_fault input done more line text rows number (Lost loss) lines counted are part is = absurd is
read_fault input done more line text rows number NotKept lines counted are part is = absurd is
read_fault input done more line text rows number Identity lines counted are part is = absurd is
read_fault input done more line text rows number ChangedIdentity lines counted are part is = absurd is
read_fault input done more line text rows number Busy lines counted are part is = absurd is
read_fault input done more line text rows number (Damaged segment offset) lines counted are part is = absurd is
read_fault input done more line text rows number TooLarge lines counted are part is = absurd is
read_fault input done more line text rows number (NoSpace missing) lines counted are part is = absurd is
read_fault input done more line text rows number (NoStore why) lines counted are part is = absurd is
read_fault input done more line text rows number NoDocument lines counted are part is = absurd is
read_fault input done more line text rows number Stream lines counted are part is = absurd is
read_fault input done more line text rows number NoThread lines counted are part is = absurd is
read_fault input done more line text rows number (NoKick why) lines counted are part is = absurd is
read_fault input done more line text rows number (JournalFailed call) lines counted are part is = absurd is
read_fault input done more line text rows number (StoreFailed call why) lines counted are part is = absurd is
read_fault input done more line text rows number LeaseEnded lines counted are part is = absurd is
read_fault input done more line text rows number Stopped lines counted are part is = absurd is
