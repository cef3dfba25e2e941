-- What was checked into a text, and then written.
use Rattle.std.proofs.Common.{◌≡◌, ◌∙◌, ℕ, List, [], ◌++◌, Bool, true, false, Option, None, Some, Result, Ok, Err, ap, refl, subst, sym, append_assoc, true≢false}
use Rattle.std.specs.Prelude.{IsOk, OnOk}
use Rattle.std.specs.Io.KnownBytes.{Appends}
use Rattle.canvas_shelf.specs.Disk.{Segment}
use Rattle.app_admin.specs.Checks.{NothingLostOf, WritesCheck, WritesCheckIf, WritesCheckIfOf, WritesCheckOf, WritesNoLossIf, WritesNoLossIfOf, WritesShelf, WritesWholeOf}
use Rattle.app_admin.specs.LossLines.{no_loss_line}

pub given_ok : {T E P : Type 0} (r : Result T E) → IsOk r → OnOk r P → P
given_ok (Ok v) is told = told
given_ok (Err e) is told = absurd (true≢false (sym is))

-- the line of no loss, where sums are kept
pub looked : (summed : Bool) (before after : Option (List ℕ)) → summed ≡ true → Appends before after no_loss_line → WritesNoLossIf summed before after
looked true before after is line = line
looked false before after is line = absurd (true≢false (sym is))

pub looked_of : (summed : Bool) (disk : List Segment) (before after : Option (List ℕ)) → summed ≡ true → Appends before after no_loss_line → NothingLostOf disk
    → WritesNoLossIfOf summed disk before after
looked_of true disk before after is line kept = (line, kept)
looked_of false disk before after is line kept = absurd (true≢false (sym is))

-- nothing, where none are
pub unlooked : (summed : Bool) (before : Option (List ℕ)) → summed ≡ false → WritesNoLossIf summed before before
unlooked true before is = absurd (true≢false is)
unlooked false before is = refl

pub unlooked_of : (summed : Bool) (disk : List Segment) (before : Option (List ℕ)) → summed ≡ false → WritesNoLossIfOf summed disk before before
unlooked_of true disk before is = absurd (true≢false is)
unlooked_of false disk before is = refl

-- the lines of segments, and then what is written of a loss
pub with_loss : (summed : Bool) (before between after : Option (List ℕ)) → WritesShelf before between → WritesNoLossIf summed between after → WritesCheckIf summed before after
with_loss true before between after lines last = (between, lines, last)
with_loss false before between after lines same = subst (λ (x : Option (List ℕ)). WritesShelf before x) (sym same) lines

-- the same of a disk
pub with_loss_of : (summed : Bool) (disk : List Segment) (before between after : Option (List ℕ)) → WritesCheckOf disk before between → WritesNoLossIfOf summed disk between after
    → WritesCheckIfOf summed disk before after
with_loss_of true disk before between after lines last = (between, lines, last.0, last.1)
with_loss_of false disk before between after lines same = subst (λ (x : Option (List ℕ)). WritesCheckOf disk before x) (sym same) lines

behind : (text o n : List ℕ) (between : Option (List ℕ)) → WritesShelf (Some []) between → Appends between (Some text) no_loss_line → n ≡ o ++ text → WritesCheck (Some o) (Some n)
behind text o n None shelf last grows = absurd shelf.3
behind text o n (Some y) shelf last grows =
    (Some (o ++ y), (shelf.0, shelf.1, shelf.2, ap (λ (z : List ℕ). o ++ z) shelf.3), grows ∙ ap (λ (z : List ℕ). o ++ z) last ∙ sym (append_assoc o y no_loss_line))

-- a text of a check that is written is a check that is written
pub written : (text : List ℕ) (old new : Option (List ℕ)) → WritesCheck (Some []) (Some text) → Appends old new text → WritesCheck old new
written text None new check grows = (None, (check.1.0, check.1.1, check.1.2, tt), tt)
written text (Some o) None check grows = absurd grows
written text (Some o) (Some n) check grows = behind text o n check.0 check.1 check.2 grows

-- the same, also where no sums are kept
pub written_if : (summed : Bool) (text : List ℕ) (old new : Option (List ℕ)) → WritesCheckIf summed (Some []) (Some text) → Appends old new text → WritesCheckIf summed old new
written_if true text old new check grows = written text old new check grows
written_if false text old new check grows = (check.0, check.1, check.2, subst (λ (t : List ℕ). Appends old new t) check.3 grows)

whole_behind : (disk : List Segment) (text o n : List ℕ) (between : Option (List ℕ)) → WritesCheckOf disk (Some []) between → Appends between (Some text) no_loss_line → NothingLostOf disk
    → n ≡ o ++ text → WritesWholeOf disk (Some o) (Some n)
whole_behind disk text o n None check last kept grows = absurd check.4
whole_behind disk text o n (Some y) check last kept grows =
    let lines : WritesCheckOf disk (Some o) (Some (o ++ y)) = (check.0, check.1, check.2, check.3, ap (λ (z : List ℕ). o ++ z) check.4) in
    (Some (o ++ y), lines, grows ∙ ap (λ (z : List ℕ). o ++ z) last ∙ sym (append_assoc o y no_loss_line), kept)

whole_written : (disk : List Segment) (text : List ℕ) (old new : Option (List ℕ)) → WritesWholeOf disk (Some []) (Some text) → Appends old new text → WritesWholeOf disk old new
whole_written disk text None new whole grows = (None, (whole.1.0, whole.1.1, whole.1.2, whole.1.3, tt), tt, whole.3)
whole_written disk text (Some o) None whole grows = absurd grows
whole_written disk text (Some o) (Some n) whole grows = whole_behind disk text o n whole.0 whole.1 whole.2 whole.3 grows

-- the same of a disk
pub written_of : (summed : Bool) (disk : List Segment) (text : List ℕ) (old new : Option (List ℕ)) → WritesCheckIfOf summed disk (Some []) (Some text) → Appends old new text
    → WritesCheckIfOf summed disk old new
written_of true disk text old new check grows = whole_written disk text old new check grows
written_of false disk text old new check grows = (check.0, check.1, check.2, check.3, subst (λ (t : List ℕ). Appends old new t) check.4 grows)
