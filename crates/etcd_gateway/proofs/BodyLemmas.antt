-- Answers, read as they come.
use Rattle.std.proofs.Common.{◌≡◌, ℕ, ◌+◌, ◌<◌, ◌≤◌, List, [], ◌∷◌, ◌++◌, length, take, drop, append_assoc, append-nil, length-append, length-take, length-drop, refl, sym, ap, ◌∙◌, subst, arith, Bor, Option, Some, None}
use Rattle.std.specs.Prelude.{option_map}
use Rattle.std.specs.List.{flat_map}
use Rattle.std.proofs.lemmas.Grind.{flat_map-append}
use Rattle.std.proofs.lemmas.List.Elements.{All-append, All-cons, All-nil}
use Rattle.std.proofs.Math.Seq.{take-append_seam, drop-append_seam, take-append-add, take-add}
use Rattle.httparse.specs.Ascii.{crlf_bytes, space}
use Rattle.httparse.specs.Grammar.{ChunkLine, Field, LineEnd, HasNoSection, IsChunkLine, ReadsChunkLine, ReadsSection, ResponseHead, chunk_size, crlf, print_blank, print_chunk_line, print_end, print_extension, print_reason, print_response, print_section, print_version, status_code}
use Rattle.httparse.specs.Spans.{IsChunkLineAt}
use Rattle.httparse.proofs.ChunkLemmas.{chunk_line_unique}
use Rattle.etcd_gateway.specs.Bodies.{ArePieces, BeginsChunk, HasNoChunk, IsBehindHead, IsLastChunk, IsPiece, Piece, has_read, print_piece}
use Rattle.etcd_gateway.specs.Heads.{BeginsWithResponse, framing_in, answer_head_of}
use Rattle.etcd_gateway.specs.declared.chunk.Chunk.TheVariants.{Bytes}
use Rattle.etcd_gateway.specs.declared.reader.Stage.{Stage}
use Rattle.etcd_gateway.specs.declared.reader.Stage.TheVariants as stage
use Rattle.etcd_gateway.specs.declared.head.AnswerHead.{AnswerHead}
use Rattle.etcd_gateway.specs.declared.head.Framing.{Framing}

-- ---- heads

said_by : (head : ResponseHead) (o : Option Framing) (said : AnswerHead)
    → option_map (λ framing. record { status = status_code head; framing = framing; length = length (print_response head) }) o ≡ Some said
    → (o ≡ Some said.framing) × (said.status ≡ status_code head) × (said.length ≡ length (print_response head))
said_by head None said e = cc
said_by head (Some framing) said e =
    let same : record { status = status_code head; framing = framing; length = length (print_response head) } ≡ said = cc in
    (ap (λ (s : AnswerHead). Some s.framing) same, sym (ap (λ (s : AnswerHead). s.status) same), sym (ap (λ (s : AnswerHead). s.length) same))

pub head_long : (bytes : List ℕ) (head : ResponseHead) (said : AnswerHead) → BeginsWithResponse bytes head → answer_head_of head ≡ Some said → said.length ≤ length bytes
head_long bytes head said begins is =
    let long = (said_by head (framing_in head) said is).2 in
    omega (arith, long, ap length begins.0.1.1, length-append (print_response head) begins.0.0)

-- a head was read
pub start : (bytes : List ℕ) (head : ResponseHead) (said : AnswerHead) (Holds : Framing → List ℕ → Type 0) → BeginsWithResponse bytes head → answer_head_of head ≡ Some said
    → Holds said.framing [] → IsBehindHead (take said.length bytes) said.status Holds
start bytes head said Holds begins is holds =
    let said_is = said_by head (framing_in head) said is in
    record {
      head = head;
      is_head = begins.0.1.0;
      status_is = said_is.1;
      framing = said.framing;
      framing_is = said_is.0;
      text = [];
      bytes_are = ap (λ (n : ℕ). take n bytes) said_is.2 ∙ ap (take (length (print_response head))) begins.0.1.1
          ∙ take-append_seam (print_response head) begins.0.0 ∙ sym (append-nil (print_response head));
      holds = holds;
    }

-- more was read behind a head
pub grow : (past more : List ℕ) (status : ℕ) (Held Holds : Framing → List ℕ → Type 0) → IsBehindHead past status Held
    → ((framing : Framing) (text : List ℕ) → Held framing text → Holds framing (text ++ more)) → IsBehindHead (past ++ more) status Holds
grow past more status Held Holds so_far then = record {
  head = so_far.head;
  is_head = so_far.is_head;
  status_is = so_far.status_is;
  framing = so_far.framing;
  framing_is = so_far.framing_is;
  text = so_far.text ++ more;
  bytes_are = ap (λ (t : List ℕ). t ++ more) so_far.bytes_are ∙ append_assoc (print_response so_far.head) so_far.text more;
  holds = then so_far.framing so_far.text so_far.holds;
}

-- ---- chunks

pub no_pieces : ArePieces [] []
no_pieces = record { pieces = []; are = All-nil IsPiece; text_is = refl; body_is = refl }

pub one_piece_more : (text body : List ℕ) (piece : Piece) → ArePieces text body → IsPiece piece → ArePieces (text ++ print_piece piece) (body ++ piece.bytes)
one_piece_more text body piece so_far is = record {
  pieces = so_far.pieces ++ piece ∷ [];
  are = All-append IsPiece so_far.pieces (piece ∷ []) so_far.are (All-cons IsPiece piece [] is (All-nil IsPiece));
  text_is = ap (λ (t : List ℕ). t ++ print_piece piece) so_far.text_is ∙ ap (λ (t : List ℕ). flat_map print_piece so_far.pieces ++ t) (sym (append-nil (print_piece piece)))
      ∙ sym (flat_map-append print_piece so_far.pieces (piece ∷ []));
  body_is = ap (λ (t : List ℕ). t ++ piece.bytes) so_far.body_is ∙ ap (λ (t : List ℕ). flat_map (λ (p : Piece). p.bytes) so_far.pieces ++ t) (sym (append-nil piece.bytes))
      ∙ sym (flat_map-append (λ (p : Piece). p.bytes) so_far.pieces (piece ∷ []));
}

-- where the line before a chunk isn't there, no chunk is
pub no_line : (buf : List ℕ) → ((l : ChunkLine) (rest : List ℕ) → ReadsChunkLine buf l rest → ⊥) → HasNoChunk buf
no_line buf never = (
  (λ piece rest is e. never piece.line (piece.bytes ++ crlf_bytes ++ rest) (is.line, e ∙ append_assoc (print_chunk_line piece.line) (piece.bytes ++ crlf_bytes) rest)),
  (λ text rest is e. never is.line (print_section is.fields is.end ++ rest)
      (is.is_line, e ∙ ap (λ (t : List ℕ). t ++ rest) is.text_is ∙ append_assoc (print_chunk_line is.line) (print_section is.fields is.end) rest)),
)

-- a line that was read is the one line there
line_known : (buf : List ℕ) (line size : ℕ) (l k : ChunkLine) (rest : List ℕ) → IsChunkLineAt buf line size l → IsChunkLine k → buf ≡ print_chunk_line k ++ rest
    → (l ≡ k) × (drop line buf ≡ rest)
line_known buf line size l k rest at is e = chunk_line_unique buf l k (drop line buf) rest at.reads (is, e)

-- behind the line of a chunk with bytes nothing else stands but these
pub only_pieces : (buf : List ℕ) (line size : ℕ) (l : ChunkLine) → IsChunkLineAt buf line size l → 0 < size
    → ((piece : Piece) (rest : List ℕ) → size ≡ length piece.bytes → drop line buf ≡ piece.bytes ++ (crlf_bytes ++ rest) → ⊥) → HasNoChunk buf
only_pieces buf line size l at some never = (
  (λ piece rest is e.
      (let known = line_known buf line size l piece.line (piece.bytes ++ crlf_bytes ++ rest) at is.line (e ∙ append_assoc (print_chunk_line piece.line) (piece.bytes ++ crlf_bytes) rest) in
      never piece rest (at.size_is ∙ ap (λ (k : ChunkLine). chunk_size k) known.0 ∙ is.size) (known.1 ∙ append_assoc piece.bytes crlf_bytes rest))),
  (λ text rest is e.
      (let known = line_known buf line size l is.line (print_section is.fields is.end ++ rest) at is.is_line
      (e ∙ ap (λ (t : List ℕ). t ++ rest) is.text_is ∙ append_assoc (print_chunk_line is.line) (print_section is.fields is.end) rest) in
      omega (arith, at.size_is, ap (λ (k : ChunkLine). chunk_size k) known.0, is.size))),
)

pub too_short : (buf : List ℕ) (line size : ℕ) (l : ChunkLine) → IsChunkLineAt buf line size l → 0 < size → length buf < line + size + 2 → HasNoChunk buf
too_short buf line size l at some short =
    only_pieces buf line size l at some
    (λ piece rest long e. omega (arith, ap (λ (t : List ℕ). length t) e, length-drop line buf, length-append piece.bytes (crlf_bytes ++ rest), length-append crlf_bytes rest))

pub no_end : (buf : List ℕ) (line size : ℕ) (l : ChunkLine) → IsChunkLineAt buf line size l → 0 < size
    → ((rest : List ℕ) → drop size (drop line buf) ≡ crlf_bytes ++ rest → ⊥) → HasNoChunk buf
no_end buf line size l at some never =
    only_pieces buf line size l at some
    (λ piece rest long e. never rest (ap (λ (n : ℕ). drop n (drop line buf)) long ∙ ap (drop (length piece.bytes)) e ∙ drop-append_seam piece.bytes (crlf_bytes ++ rest)))

-- a line, and so many bytes behind it
front_of : (buf : List ℕ) (line size more : ℕ) (l : ChunkLine) → IsChunkLineAt buf line size l → take (line + more) buf ≡ print_chunk_line l ++ take more (drop line buf)
front_of buf line size more l at =
    ap (λ (n : ℕ). take (n + more) buf) at.len_is ∙ ap (take (length (print_chunk_line l) + more)) at.reads.1 ∙ take-append-add (print_chunk_line l) (drop line buf) more

pub piece_is : (buf body end : List ℕ) (line size : ℕ) (l : ChunkLine) → IsChunkLineAt buf line size l → 0 < size → line + size + 2 ≤ length buf
    → body ≡ take size (drop line buf) → end ≡ drop size (drop line buf) → end ≡ crlf_bytes ++ drop 2 end
    → (piece : Piece) × IsPiece piece × (take (line + size + 2) buf ≡ print_piece piece) × (body ≡ piece.bytes)
piece_is buf body end line size l at some long body_is end_is crlf_is =
    let count : length (take size (drop line buf)) ≡ size = omega (arith, length-take size (drop line buf), length-drop line buf) in
    let tail : take 2 (drop size (drop line buf)) ≡ crlf_bytes = ap (take 2) (sym end_is ∙ crlf_is) ∙ take-append_seam crlf_bytes (drop 2 end) in
    let sum : line + size + 2 ≡ line + (size + 2) = omega arith in (
      record { line = l; bytes = take size (drop line buf) },
      record { line = at.reads.0; size = sym at.size_is ∙ sym count; some = omega arith },
      ap (λ (n : ℕ). take n buf) sum ∙ front_of buf line size (size + 2) l at
          ∙ ap (λ (t : List ℕ). print_chunk_line l ++ t) (take-add size 2 (drop line buf) ∙ ap (λ (t : List ℕ). take size (drop line buf) ++ t) tail),
      body_is,
    )

-- ---- the last chunk

pub last_is : (buf behind : List ℕ) (line count : ℕ) (l : ChunkLine) (fields : List Field) (end : LineEnd) → IsChunkLineAt buf line 0 l → behind ≡ drop line buf
    → ReadsSection behind fields end (drop count behind) → count ≡ length (print_section fields end) → IsLastChunk (take (line + count) buf)
last_is buf behind line count l fields end at behind_is reads count_is = record {
  line = l;
  fields = fields;
  end = end;
  is_line = at.reads.0;
  size = sym at.size_is;
  are_fields = reads.0;
  text_is = front_of buf line 0 count l at
      ∙ ap (λ (t : List ℕ). print_chunk_line l ++ t) (ap (take count) (sym behind_is) ∙ ap (λ (n : ℕ). take n behind) count_is ∙ ap (take (length (print_section fields end))) reads.1
      ∙ take-append_seam (print_section fields end) (drop count behind));
}

pub no_last : (buf : List ℕ) (line : ℕ) (l : ChunkLine) → IsChunkLineAt buf line 0 l → HasNoSection (drop line buf) → HasNoChunk buf
no_last buf line l at never = (
  (λ piece rest is e.
      (let known = line_known buf line 0 l piece.line (piece.bytes ++ crlf_bytes ++ rest) at is.line (e ∙ append_assoc (print_chunk_line piece.line) (piece.bytes ++ crlf_bytes) rest) in
      omega (arith, at.size_is, ap (λ (k : ChunkLine). chunk_size k) known.0, is.size, is.some))),
  (λ text rest is e.
      (let known = line_known buf line 0 l is.line (print_section is.fields is.end ++ rest) at is.is_line
      (e ∙ ap (λ (t : List ℕ). t ++ rest) is.text_is ∙ append_assoc (print_chunk_line is.line) (print_section is.fields is.end) rest) in
      never is.fields is.end rest (is.are_fields, known.1))),
)

-- ---- lengths

six : (a b c d e f : List ℕ) → 0 < length b → 0 < length (a ++ b ++ c ++ d ++ e ++ f)
six a b c d e f some =
    omega (arith, length-append a b, length-append (a ++ b) c, length-append (a ++ b ++ c) d, length-append (a ++ b ++ c ++ d) e, length-append (a ++ b ++ c ++ d ++ e) f)

head_some : (head : ResponseHead) → 0 < length (print_response head)
unfolding print_response
head_some head =
    six (print_blank head.blank) (print_version head.minor) (space ∷ head.digits) (print_reason head.reason) (print_end head.line_end) (print_section head.fields head.last) (omega arith)

pub said_some : (head : ResponseHead) (said : AnswerHead) → answer_head_of head ≡ Some said → 0 < said.length
said_some head said is = omega (arith, (said_by head (framing_in head) said is).2, head_some head)

line_some : (l : ChunkLine) → IsChunkLine l → 0 < length (print_chunk_line l)
unfolding print_chunk_line
line_some l is = omega (arith, length-append (l.digits ++ l.pad ++ print_extension l.extension) (print_end crlf))

pub last_some : (text : List ℕ) → IsLastChunk text → 0 < length text
last_some text is = omega (arith, ap (λ (t : List ℕ). length t) is.text_is, length-append (print_chunk_line is.line) (print_section is.fields is.end), line_some is.line is.is_line)

pub piece_some : (piece : Piece) → IsPiece piece → 0 < length (print_piece piece)
piece_some piece is = omega (arith, length-append (print_chunk_line piece.line) (piece.bytes ++ crlf_bytes), line_some piece.line is.line)

-- ---- steps

pub more_bytes : (s : Stage) (status : ℕ) (body longer past buf : List ℕ) (chunk : Bor (List ℕ)) (size : ℕ) → s ≡ stage.Chunks → BeginsChunk buf (Bytes chunk size)
    → longer ≡ body ++ chunk.now → has_read s status body past → has_read s status longer (past ++ take size buf)
more_bytes s status body longer past buf chunk size at begins longer_is =
    let text_is = begins.3 in
    let body_is : longer ≡ body ++ begins.1.bytes = longer_is ∙ ap (λ (t : List ℕ). body ++ t) begins.4 in
    subst (λ (s : Stage). has_read s status body past → has_read s status longer (past ++ take size buf)) (sym at)
    (λ so_far. grow past (take size buf) status _ _ so_far
    (λ framing text held. (
      held.0,
      subst (λ (t : List ℕ). ArePieces (text ++ t) longer) (sym text_is) (subst (ArePieces (text ++ print_piece begins.1)) (sym body_is)
          (one_piece_more text body begins.1 held.1 begins.2)),
    )))

-- a head came
pub head_came : (s new : Stage) (before : ℕ) (body past bytes : List ℕ) (head : ResponseHead) (said : AnswerHead) → s ≡ stage.Head
    → BeginsWithResponse bytes head → answer_head_of head ≡ Some said
    → ((status : ℕ) (past : List ℕ) → IsBehindHead past status (λ framing text. (framing ≡ said.framing) × (text ≡ [])) → has_read new status [] past)
    → has_read s before body past → has_read new said.status body (past ++ take said.length bytes)
head_came s new before body past bytes head said at begins is then so_far =
    let nothing : has_read stage.Head before body past = subst (λ (s : Stage). has_read s before body past) at so_far in
    let front = take said.length bytes in
    let read : has_read new said.status [] front = then said.status front (start bytes head said _ begins is (refl, refl)) in
    subst (λ (b : List ℕ). has_read new said.status b (past ++ front)) (sym nothing.1)
    (subst (λ (p : List ℕ). has_read new said.status [] (p ++ front)) (sym nothing.0) read)
