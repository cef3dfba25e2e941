-- Bytes of which some have left.
use Rattle.std.proofs.Common.{◌≡◌, ℕ, ◌+◌, ◌≤◌, List, ◌++◌, length, take, drop, sym, ap, subst, ◌∙◌, append_assoc, take-append-drop}
use Rattle.std.specs.Prelude.{Option, None, Some, min}
use Rattle.std.proofs.lemmas.List.{drop-drop, length-take-le}
use Rattle.std.specs.Io.KnownBytes.{Appends, Keeps, append_known}
use Rattle.std.proofs.KnownBytes.{append_known-moved}
use Rattle.net_outbox.specs.declared.outbox.Outbox.{Outbox}
use Rattle.net_outbox.specs.Giving.{Gives}
use Rattle.net_outbox.specs.Outboxes.{Leaves, contents_of, waiting_bytes}

-- a front of what stood from a place on, and what stands behind it
pub front_and_rest : (bytes : List ℕ) (sent n : ℕ) → drop sent bytes ≡ take n (drop sent bytes) ++ drop (sent + n) bytes
front_and_rest bytes sent n = sym (take-append-drop n (drop sent bytes)) ∙ ap (λ l. take n (drop sent bytes) ++ l) (drop-drop n sent bytes)

-- a front as long as it says
pub front_length : (bytes : List ℕ) (sent n : ℕ) → n ≤ length (drop sent bytes) → length (take n (drop sent bytes)) ≡ n
front_length bytes sent n fits = length-take-le n (drop sent bytes) fits

-- what leaves isn't lost
pub keeps : {S : Type 0} (contents : S → Option (List ℕ)) (old new : Outbox S) → Leaves contents old new → Keeps (contents_of contents old) (contents_of contents new)
keeps contents old new leaves = append_known-moved _ _ leaves.0 _ _ leaves.2 leaves.1

-- what the stream took has left
pub leaves_of : {S : Type 0} (contents : S → Option (List ℕ)) (old new : Outbox S) (count : ℕ) → Gives (contents old.stream) (contents new.stream) count old.unsent new.unsent
    → new.taken ≡ min (old.taken + count) 18446744073709551615 → Leaves contents old new
leaves_of contents old new count gives counted = (
  gives.0,
  gives.1,
  gives.3,
  counted ∙ ap (λ (n : ℕ). min (old.taken + n) 18446744073709551615) (sym gives.2),
)

-- bytes that joined those that wait
joins : (known : Option (List ℕ)) (old new more : List ℕ) → new ≡ old ++ more → Appends (append_known known old) (append_known known new) more
joins None old new more is = tt
joins (Some x) old new more is = ap (λ l. x ++ l) is ∙ sym (append_assoc x old more)

-- the same of an outbox
pub grows : {S : Type 0} (contents : S → Option (List ℕ)) (old new : Outbox S) (more : List ℕ) → new.stream ≡ old.stream → waiting_bytes new ≡ waiting_bytes old ++ more
    → Appends (contents_of contents old) (contents_of contents new) more
grows {S = S} contents old new more same is =
    subst (λ (s : S). Appends (contents_of contents old) (append_known (contents s) (waiting_bytes new)) more) (sym same) (joins (contents old.stream) (waiting_bytes old) (waiting_bytes new) more is)
