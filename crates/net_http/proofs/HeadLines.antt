-- The lines of a head, one after the other.
use Rattle.std.proofs.Common.{◌≡◌, ℕ, List, ◌++◌, append_assoc}

-- a first line, two lines with a value, four more lines, one with a value, and an end: without brackets
pub head_regroup : (a r e n s k m z c d f g p i x : List ℕ)
    → a ++ r ++ e ++ (n ++ s ++ k ++ e) ++ (m ++ s ++ z ++ e) ++ c ++ d ++ f ++ g ++ (p ++ s ++ i ++ e) ++ x ++ e
    ≡ a ++ (r ++ (e ++ (n ++ (s ++ (k ++ (e ++ (m ++ (s ++ (z ++ (e ++ (c ++ (d ++ (f ++ (g ++ (p ++ (s ++ (i ++ (e ++ (x ++ e)))))))))))))))))))
head_regroup a r e n s k m z c d f g p i x = simp append_assoc
