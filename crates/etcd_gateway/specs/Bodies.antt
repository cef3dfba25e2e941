-- The bodies of answers, and answers whole and in part.
use Rattle.std.specs.Prelude.{◌≡◌, ◌≢◌, ℕ, ◌+◌, ◌<◌, ◌≤◌, List, [], ◌++◌, length, take, Some, All}
use Rattle.std.specs.List.{flat_map}
use Rattle.httparse.specs.Ascii.{crlf_bytes}
use Rattle.httparse.specs.Grammar.{ChunkLine, Field, LineEnd, HasNoResponse, IsChunkLine, IsField, IsResponseHead, ResponseHead, chunk_size, print_chunk_line, print_response, print_section, status_code}
use Rattle.etcd_gateway.specs.Heads.{framing_in}
use Rattle.etcd_gateway.specs.declared.chunk.Chunk.{Chunk}
use Rattle.etcd_gateway.specs.declared.chunk.Chunk.TheVariants.{Bytes, Last}
use Rattle.etcd_gateway.specs.declared.head.Framing.{Framing}
use Rattle.etcd_gateway.specs.declared.head.Framing.TheVariants.{Sized, Chunked}
use Rattle.etcd_gateway.specs.declared.reader.AnswerReader.{AnswerReader}
use Rattle.etcd_gateway.specs.declared.reader.Stage.{Stage}
use Rattle.etcd_gateway.specs.declared.reader.Stage.TheVariants as stage

-- a chunk: a line, and bytes
pub record Piece : Type 0 where
  pub line : ChunkLine
  pub bytes : List ℕ

-- there are bytes, and the line says how many
pub record IsPiece (piece : Piece) : Type 0 where
  pub line : IsChunkLine piece.line
  pub size : chunk_size piece.line ≡ length piece.bytes
  pub some : 0 < length piece.bytes

-- a chunk as it is sent
abbrev pub print_piece : Piece → List ℕ
print_piece piece = print_chunk_line piece.line ++ (piece.bytes ++ crlf_bytes)

-- the text is chunks, with these bytes in all
pub record ArePieces (text : List ℕ) (body : List ℕ) : Type 0 where
  pub pieces : List Piece
  pub are : All IsPiece pieces
  pub text_is : text ≡ flat_map print_piece pieces
  pub body_is : body ≡ flat_map (λ (piece : Piece). piece.bytes) pieces

-- the text is the line of an empty chunk, and fields
pub record IsLastChunk (text : List ℕ) : Type 0 where
  pub line : ChunkLine
  pub fields : List Field
  pub end : LineEnd
  pub is_line : IsChunkLine line
  pub size : chunk_size line ≡ 0
  pub are_fields : All IsField fields
  pub text_is : text ≡ print_chunk_line line ++ print_section fields end

-- the bytes begin with this chunk, or with the last
abbrev pub BeginsChunk : List ℕ → Chunk → Type 0
BeginsChunk buf (Bytes bytes size) = (size ≤ length buf) × (piece : Piece) × IsPiece piece × (take size buf ≡ print_piece piece) × (bytes.now ≡ piece.bytes)
BeginsChunk buf (Last size) = (size ≤ length buf) × IsLastChunk (take size buf)

-- the bytes begin with no chunk
abbrev pub HasNoChunk : List ℕ → Type 0
HasNoChunk buf = ((piece : Piece) (rest : List ℕ) → IsPiece piece → buf ≢ print_piece piece ++ rest) × ((text : List ℕ) (rest : List ℕ) → IsLastChunk text → buf ≢ text ++ rest)

-- the text is a body that was sent like this
abbrev pub IsBody : Framing → List ℕ → List ℕ → Type 0
IsBody (Sized size) text body = (text ≡ body) × (length body ≡ size)
IsBody Chunked text body = (front : List ℕ) × (back : List ℕ) × (text ≡ front ++ back) × ArePieces front body × IsLastChunk back

-- the bytes are a head of this status that says how long the body is, and a text of which this holds
pub record IsBehindHead (bytes : List ℕ) (status : ℕ) (Holds : Framing → List ℕ → Type 0) : Type 0 where
  pub head : ResponseHead
  pub is_head : IsResponseHead head
  pub status_is : status ≡ status_code head
  pub framing : Framing
  pub framing_is : framing_in head ≡ Some framing
  pub text : List ℕ
  pub bytes_are : bytes ≡ print_response head ++ text
  pub holds : Holds framing text

-- the bytes are an answer of this status with this body
abbrev pub IsHttpAnswer : List ℕ → ℕ → List ℕ → Type 0
IsHttpAnswer bytes status body = IsBehindHead bytes status (λ framing text. IsBody framing text body)

-- what was read so far: nothing; a head, and all but so many bytes of a body; a head, and chunks; an answer
abbrev pub has_read : Stage → ℕ → List ℕ → List ℕ → Type 0
has_read stage.Head status body past = (past ≡ []) × (body ≡ [])
has_read (stage.Sized left) status body past = IsBehindHead past status (λ framing text. (framing ≡ Sized (length body + left)) × (text ≡ body))
has_read stage.Chunks status body past = IsBehindHead past status (λ framing text. (framing ≡ Chunked) × ArePieces text body)
has_read stage.Whole status body past = IsHttpAnswer past status body

-- the reader has read these bytes
abbrev pub HasReadBytes : AnswerReader → List ℕ → Type 0
HasReadBytes reader past = has_read reader.stage reader.status reader.body.items past

-- the bytes hold nothing to read on: no whole head, no byte of a body of which bytes are to come, no whole chunk
abbrev pub has_nothing : Stage → List ℕ → Type 0
has_nothing stage.Head bytes = HasNoResponse bytes
has_nothing (stage.Sized left) bytes = 0 < left → bytes ≡ []
has_nothing stage.Chunks bytes = HasNoChunk bytes
has_nothing stage.Whole bytes = Unit {0}

-- the bytes hold nothing that the reader could take
abbrev pub HasNothingFor : AnswerReader → List ℕ → Type 0
HasNothingFor reader bytes = has_nothing reader.stage bytes

-- the answer was read whole
abbrev pub IsReadWhole : AnswerReader → Type 0
IsReadWhole reader = reader.stage ≡ stage.Whole
