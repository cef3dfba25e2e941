-- How many entries the tail of a board has.
use Rattle.std.proofs.Common.{◌≡◌, ◌⊎◌, ℕ, ◌+◌, ◌-◌, ◌<◌, ◌≤◌, ◌^◌, List, [], ◌∷◌, length, take, drop, Bool, true, false, cond, Some, None, refl, ap, arith, inl, inr, length-append, length-drop, ⊎_elim}
use Rattle.std.specs.Prelude.{nat_lt}
use Rattle.canvas_model.specs.Log.{Entry, last_version}
use Rattle.canvas_model.proofs.Tests.{lt_false}
use Rattle.canvas_server.specs.Served.{Served, tail_of}
use Rattle.canvas_journal.proofs.Entries.{take-least}
use Rattle.canvas_board.specs.Marks.{Failed, Floor, IsLegalHistory, LegalFrom, Logged, Mark, MarkMayFollow, Opening, board, board_from, start, step}

-- ---- floors and counts

-- All is published, the entries after the floor are there, and where there are some, there aren't too many.
record IsFilled (b : Served) : Type 0 where
  whole : b.floor + length b.kept ≡ b.version
  shown : b.published ≡ b.version
  few : (length b.kept ≡ 0) ⊎ (b.version ≤ last_version)

filled_logged : (b : Served) (e : Entry) → IsFilled b → b.version < last_version → IsFilled (step b (Logged e))
filled_logged b e f l = record {
  whole = omega (arith, f.whole, length-append b.kept (e ∷ []));
  shown = refl;
  few = inr (omega (arith, l));
}

filled_floor : (b : Served) (v : ℕ) → IsFilled b → MarkMayFollow b (Floor v) → IsFilled (step b (Floor v))
filled_floor b v f l = record {
  whole = omega (arith, l.0, l.1, f.whole, length-drop (v - b.floor) b.kept);
  shown = f.shown;
  few = ⊎_elim (λ (none : length b.kept ≡ 0). inl (omega (arith, none, length-drop (v - b.floor) b.kept))) (λ (few : b.version ≤ last_version). inr few) f.few;
}

filled : (b : Served) (xs : List Mark) → IsFilled b → LegalFrom b xs → IsFilled (board_from b xs)
filled b [] f l = f
filled b (Logged e ∷ xs) f l = filled (step b (Logged e)) xs (filled_logged b e f l.0.1) l.1
filled b (Floor v ∷ xs) f l = filled (step b (Floor v)) xs (filled_floor b v f l.0) l.1
filled b (Failed ∷ xs) f l = filled b xs f l.1

filled_board : (o : Opening) (xs : List Mark) → IsLegalHistory o xs → IsFilled (board o xs)
filled_board o xs l = filled (start o) xs (record { whole = omega arith; shown = refl; few = inl refl }) l

-- ---- tails

few_by : (t : Bool) (b : Served) (from : ℕ) (es : List Entry) → IsFilled b → from < 2 ^ 64 → nat_lt from b.floor ≡ t
    → Some es ≡ cond t None (Some (take 64 (drop (from - b.floor) (take (b.published - b.floor) b.kept)))) → from + length es < 2 ^ 64
few_by true b from es f small is told = absurd (cc told)
few_by false b from es f small is told =
    let same : es ≡ take 64 (drop (from - b.floor) (take (b.published - b.floor) b.kept)) = cc told in
    let size : length es ≡ length (take 64 (drop (from - b.floor) (take (b.published - b.floor) b.kept))) = ap length same in
    let first : length (take 64 (drop (from - b.floor) (take (b.published - b.floor) b.kept))) ≤ length (drop (from - b.floor) (take (b.published - b.floor) b.kept)) = take-least 64 (drop (from - b.floor) (take (b.published - b.floor) b.kept)) in
    let rest = length-drop (from - b.floor) (take (b.published - b.floor) b.kept) in
    let all : length (take (b.published - b.floor) b.kept) ≤ length b.kept = take-least (b.published - b.floor) b.kept in
    let above = lt_false from b.floor is in
    ⊎_elim (λ (none : length b.kept ≡ 0). omega (arith, size, first, rest, all, small, none)) (λ (few : b.version ≤ last_version). omega (arith, size, first, rest, all, small, above, f.whole, few)) f.few

-- a version and the entries told after it are numbers of 64 bits
pub few_told : (o : Opening) (h : List Mark) (from : ℕ) (es : List Entry) → IsLegalHistory o h → from < 2 ^ 64 → Some es ≡ tail_of (board o h) from 64 → from + length es < 2 ^ 64
few_told o h from es legal small told = few_by (nat_lt from (board o h).floor) (board o h) from es (filled_board o h legal) small refl told
