-- Frames that are followed byte by byte.
use Rattle.std.proofs.Common.{◌≡◌, ℕ, ◌+◌, ◌<◌, ◌≤◌, false, List, [], ◌∷◌, ◌++◌, length, take, drop, set, Some, Ok, refl, sym, ◌∙◌, ap, arith, append-nil, append_assoc, take-append-drop, length-append}
use Rattle.std.proofs.lemmas.Grind.{common_steps}
use Rattle.std.proofs.lemmas.List.{take_at, take-append-le, take_more_set, nil_from_length}
use Rattle.websocket.specs.declared.protocol.frame.header.FrameHeader.{FrameHeader}
use Rattle.websocket.specs.FrameHeader.{IsHeader, IsCutHeader, StartsWithHeader, Decoded, encode_header, decode_header}
use Rattle.websocket.proofs.CutHeaderLemmas.{IsCutHeader_from_decode}
use Rattle.websocket.proofs.FrameHeaderLemmas.{decode_header-encode_header, same_decoded}
use Rattle.net_idle.specs.declared.frames.Frames.{Frames}
use Rattle.net_idle.specs.Frames.{AreFrames, none, one_more, AreFramesSoFar, HasFollowedBytes, AreWhole, entered}

-- ---- headers

-- nothing is a cut header
pub cut_nothing : IsCutHeader []
unfolding decode_header
cut_nothing = IsCutHeader_from_decode [] (λ i. grind (arith, common_steps)) refl

-- of two fronts of one list, the shorter is a front of the longer
front_of_front : (xs p ys q : List ℕ) → xs ++ p ≡ ys ++ q → length xs ≤ length ys → ys ≡ xs ++ drop (length xs) ys
front_of_front xs p ys q same shorter =
    let front : take (length xs) ys ≡ xs = sym (take-append-le (length xs) ys q shorter) ∙ rw (← same) (take_at xs p (length xs) refl) in
    sym (take-append-drop (length xs) ys) ∙ ap (λ f. f ++ drop (length xs) ys) front

-- where a header begins with a header, both are read
same_header : (g h : FrameHeader) (m n : ℕ) (behind : List ℕ) → IsHeader g m → IsHeader h n → encode_header g m ≡ encode_header h n ++ behind
    → ◌≡◌ {A = Decoded (FrameHeader × ℕ)} (Ok (Some (g, m))) (Ok (Some (h, n)))
same_header g h m n behind good valid is =
    sym (decode_header-encode_header g m [] good)
    ∙ ap decode_header (append-nil (encode_header g m) ∙ is)
    ∙ decode_header-encode_header h n behind valid

-- so both are as long
same_length : (g h : FrameHeader) (m n : ℕ) (behind : List ℕ) → IsHeader g m → IsHeader h n → encode_header g m ≡ encode_header h n ++ behind
    → length (encode_header g m) ≡ length (encode_header h n)
same_length g h m n behind good valid is = let same = same_decoded (same_header g h m n behind good valid is) in cc (same.0, same.1)

-- where a cut list and a byte are this header and more, the cut list begins with the header
begins_with : (cut : List ℕ) (byte : ℕ) (bytes : List ℕ) (x : ℕ) (xs : List ℕ) → cut ++ byte ∷ [] ≡ bytes ++ x ∷ xs
    → cut ≡ bytes ++ drop (length bytes) cut
begins_with cut byte bytes x xs is =
    front_of_front bytes (x ∷ xs) cut (byte ∷ []) (sym is)
    (omega (arith, ap length is, length-append cut (byte ∷ []), length-append bytes (x ∷ xs)))

-- a cut header doesn't begin with a header
never_begins : (cut mid : List ℕ) (g h : FrameHeader) (m n b : ℕ) (more : List ℕ) → IsHeader g m → IsHeader h n → cut ++ b ∷ more ≡ encode_header g m
    → cut ≡ encode_header h n ++ mid → ⊥
never_begins cut mid g h m n b more good valid whole begins =
    let longer : encode_header g m ≡ encode_header h n ++ (mid ++ b ∷ more) = sym whole ∙ rw (begins, append_assoc) refl in
    omega (arith, same_length g h m n (mid ++ b ∷ more) good valid longer, ap length whole, ap length begins, length-append cut (b ∷ more), length-append (encode_header h n) mid)

-- the byte by which a cut header begins with a whole one is the last byte of that
pub ends_here : (cut : List ℕ) (byte : ℕ) (h : FrameHeader) (n : ℕ) → IsCutHeader cut → StartsWithHeader (cut ++ byte ∷ []) h n
    → cut ++ byte ∷ [] ≡ encode_header h n
ends_here cut byte h n is_cut (valid, ([], is)) = is ∙ append-nil (encode_header h n)
ends_here cut byte h n (g, m, b, more, good, whole) (valid, (x ∷ xs, is)) =
    absurd (never_begins cut _ g h m n b more good valid whole (begins_with cut byte (encode_header h n) x xs is))

-- ---- what passes

-- nothing has passed
pub stands_at_begin : (frames : Frames) → frames.filled ≡ 0 → frames.left ≡ 0 → frames.is_split ≡ false → AreFramesSoFar frames []
stands_at_begin frames empty whole together =
    record {
      front = [];
      bytes_are = rw empty refl;
      is_cut = rw empty cut_nothing;
      gets_whole = λ rest is. rw (nil_from_length rest (is ∙ whole), together) none;
      one_of_both = λ _. empty;
    }

-- between two messages all that passed is whole messages
pub whole_messages : (frames : Frames) (bytes : List ℕ) → AreWhole frames → HasFollowedBytes frames bytes → AreFrames bytes false
whole_messages frames bytes whole follows =
    let stands = follows whole.3 in
    let are : bytes ≡ stands.front ++ [] = rw whole.0 at stands.bytes_are in
    rw are (rw whole.2 at (stands.gets_whole [] (sym whole.1)))

-- a byte of a payload
pub stands_in_payload : (frames : Frames) (bytes : List ℕ) (byte left : ℕ) → frames.left ≡ left + 1 → AreFramesSoFar frames bytes
    → AreFramesSoFar (record frames { left = left }) (bytes ++ byte ∷ [])
stands_in_payload frames bytes byte left one stands =
    let no_header : frames.filled ≡ 0 = stands.one_of_both (omega arith) in
    let are : bytes ≡ stands.front ++ [] = rw no_header at stands.bytes_are in
    record {
      front = stands.front ++ byte ∷ [];
      bytes_are = rw (no_header, append-nil, are, append-nil) refl;
      is_cut = rw no_header cut_nothing;
      gets_whole = λ rest is. rw append_assoc (stands.gets_whole (byte ∷ rest) (omega arith));
      one_of_both = λ _. no_header;
    }

-- with one byte more of a header
abbrev pub with_byte : (frames : Frames) (byte : ℕ) → Frames
with_byte frames byte = record frames { head = set frames.head frames.filled byte; filled = frames.filled + 1 }

-- a byte of a header that isn't its last
pub stands_in_header : (frames : Frames) (bytes : List ℕ) (byte : ℕ) → frames.left ≡ 0 → frames.filled < length frames.head
    → IsCutHeader (take (frames.filled + 1) (set frames.head frames.filled byte)) → AreFramesSoFar frames bytes
    → AreFramesSoFar (with_byte frames byte) (bytes ++ byte ∷ [])
stands_in_header frames bytes byte none_left room cut stands =
    record {
      front = stands.front;
      bytes_are = rw (take_more_set frames.head frames.filled byte room, stands.bytes_are, append_assoc) refl;
      is_cut = cut;
      gets_whole = stands.gets_whole;
      one_of_both = λ some. absurd (omega arith);
    }

-- the last byte of a header
pub stands_behind_header : (frames : Frames) (bytes : List ℕ) (byte : ℕ) (h : FrameHeader) (n : ℕ) → frames.left ≡ 0 → frames.filled < length frames.head
    → StartsWithHeader (take (frames.filled + 1) (set frames.head frames.filled byte)) h n → AreFramesSoFar frames bytes
    → AreFramesSoFar (entered h n (with_byte frames byte)) (bytes ++ byte ∷ [])
stands_behind_header frames bytes byte h n none_left room starts stands =
    let cut = take frames.filled frames.head in
    let now : StartsWithHeader (cut ++ byte ∷ []) h n = rw (take_more_set frames.head frames.filled byte room) at starts in
    let is : cut ++ byte ∷ [] ≡ encode_header h n = ends_here cut byte h n stands.is_cut now in
    let are : bytes ++ byte ∷ [] ≡ stands.front ++ encode_header h n = rw (stands.bytes_are, append_assoc) (ap (λ header. stands.front ++ header) is) in
    let front : AreFrames stands.front frames.is_split = rw append-nil at (stands.gets_whole [] (sym none_left)) in
    record {
      front = bytes ++ byte ∷ [];
      bytes_are = rw append-nil refl;
      is_cut = cut_nothing;
      gets_whole = λ rest same.
          rw (are, append_assoc, ← same) (one_more h rest front (rw same now.0));
      one_of_both = λ _. refl;
    }
