-- Segments that are copied one by one.
use Rattle.std.proofs.Common.{◌≡◌, ◌++◌, ◌∙◌, ◌+◌, ◌<◌, ℕ, List, [], ◌∷◌, length, sym, ap, append_assoc, drop, get_or}
use Rattle.canvas_shelf.specs.Disk.{Content, Segment, bytes_of}
use Rattle.canvas_journal.specs.Opening.{paired}
use Rattle.app_admin.proofs.Lines.{pairs_at}

-- one more copy
pub copied_on : (disk : List Segment) (i : ℕ) (l : List ℕ) (n : ℕ) (bytes : List ℕ) (old new whole : Content) → i < length l → n ≡ get_or l i 0 → bytes ≡ bytes_of n disk
    → new ≡ old ++ (n, bytes) ∷ [] → old ++ paired disk (drop i l) ≡ whole → new ++ paired disk (drop (i + 1) l) ≡ whole
copied_on disk i l n bytes old new whole less at held grown all =
    let rest = paired disk (drop (i + 1) l) in
    ap (λ (c : Content). c ++ rest) grown
    ∙ append_assoc old ((n, bytes) ∷ []) rest
    ∙ ap (λ (c : Content). old ++ c) (sym (pairs_at disk i l n bytes less at held))
    ∙ all
