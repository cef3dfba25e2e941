-- What a line names, and beginnings that get longer.
use Rattle.std.proofs.Common.{◌≡◌, ◌∙◌, ◌≤◌, ◌+◌, ◌-◌, ◌++◌, ℕ, List, length, take, sym, ap, arith, append_assoc, length-append}
use Rattle.std.specs.Prelude.{codes}
use Rattle.std.specs.Fmt.{decimal}
use Rattle.std.specs.List.{slice_range}
use Rattle.std.proofs.Math.Seq.{take-add, take-append_seam}
use Rattle.std.proofs.lemmas.Fmt.{decimal_injective}
use Rattle.disk_integrity.specs.Lines.{Names}

-- the number's text is what stands before the last 65 bytes
front_of : (line digest : List ℕ) (n : ℕ) → Names line n digest → decimal n ≡ take (length line - 65) line
front_of line digest n names =
    let one : line ≡ decimal n ++ (codes " " ++ digest) = names.is ∙ append_assoc (decimal n) (codes " ") digest in
    let size : length line ≡ length (decimal n) + length (codes " " ++ digest) = ap (λ (x : List ℕ). length x) one ∙ length-append (decimal n) (codes " " ++ digest) in
    let long : length digest ≡ 64 = names.long in
    let front : length line - 65 ≡ length (decimal n) = omega arith in
    sym (ap (λ (k : ℕ). take k line) front ∙ ap (λ (x : List ℕ). take (length (decimal n)) x) one ∙ take-append_seam (decimal n) (codes " " ++ digest))

-- a line names one number
pub names_once : (line a b : List ℕ) (n m : ℕ) → Names line n a → Names line m b → n ≡ m
names_once line a b n m first second = decimal_injective n m first.small second.small (front_of line a n first ∙ sym (front_of line b m second))

-- a beginning, and what stands behind it
pub longer : (bytes : List ℕ) (n m : ℕ) → n ≤ m → take n bytes ++ slice_range bytes n m ≡ take m bytes
longer bytes n m le =
    let sum : n + (m - n) ≡ m = omega arith in
    sym (take-add n (m - n) bytes) ∙ ap (λ (k : ℕ). take k bytes) sum
