use Rattle.std.proofs.Common.{◌≡◌, ℕ, ◌≤◌, drop, length}
use Rattle.std.specs.List.{AllWithin}
use Rattle.canvas_doc.specs.Spots.{IsStart}
use Rattle.canvas_doc.proofs.Walked.{AreIds}
use Rattle.canvas_doc.proofs.spots.ids_under.Given as goal

abbrev pub invariant-loop-spot : goal.invariant-loop-spot
invariant-loop-spot g l =
    (first : ℕ) × IsStart l.parent l.fn.spots first × (n : ℕ) × (l.rest ≡ drop n l.fn.spots) × (first ≤ n) × (n ≤ length l.fn.spots) × AllWithin (λ s. s.parent ≡ l.parent) l.fn.spots first n × AreIds l.fn.spots first n l.ids.items

abbrev pub decreases-loop-spot : goal.decreases-loop-spot
decreases-loop-spot g l = length l.rest
