-- The frames of a WebSocket in the bytes of a stream, RFC 6455 sections 5.2 and 5.4.
use Rattle.std.specs.Prelude.{◌≡◌, ℕ, ◌<◌, Bool, false, not, List, [], ◌++◌, length, take}
use Rattle.websocket.specs.declared.protocol.frame.coding.OpCode.{OpCode}
use Rattle.websocket.specs.declared.protocol.frame.coding.OpCode.TheVariants.{Data, Control}
use Rattle.websocket.specs.declared.protocol.frame.header.FrameHeader.{FrameHeader}
use Rattle.websocket.specs.FrameHeader.{IsHeader, IsCutHeader, encode_header}
use Rattle.net_idle.specs.declared.frames.Frames.{Frames}

-- whether the last frame of a message is still to come behind a frame of this kind, by whether that was so in front of it: a data
-- frame says it, and a control frame may stand between those of a message
abbrev pub split_by : OpCode → Bool → Bool → Bool
split_by (Data _) is_final was_split = not is_final
split_by (Control _) is_final was_split = was_split

-- the same for a frame with this header
abbrev pub split_behind : FrameHeader → Bool → Bool
split_behind h was_split = split_by h.opcode h.is_final was_split

-- the bytes are whole frames, one behind the other; `split` says whether the last frame of a message is still to come
pub data AreFrames : List ℕ → Bool → Type 0 where
  none : AreFrames [] false
  one_more : {bytes : List ℕ} {split : Bool} (h : FrameHeader) (payload : List ℕ) → AreFrames bytes split → IsHeader h (length payload)
      → AreFrames (bytes ++ (encode_header h (length payload) ++ payload)) (split_behind h split)

-- the bytes are whole messages, with the control frames between them
abbrev pub AreMessages : List ℕ → Type 0
AreMessages bytes = AreFrames bytes false

-- where the bytes lead to that were frames so far: to what is kept of a header, which isn't whole, behind a front. With as many bytes
-- as are left, whatever they are, the front is whole frames.
pub record AreFramesSoFar (frames : Frames) (bytes : List ℕ) : Type 0 where
  pub front : List ℕ
  pub bytes_are : bytes ≡ front ++ take frames.filled frames.head
  pub is_cut : IsCutHeader (take frames.filled frames.head)
  pub gets_whole : (rest : List ℕ) → length rest ≡ frames.left → AreFrames (front ++ rest) frames.is_split
  pub one_of_both : 0 < frames.left → frames.filled ≡ 0

-- these are the bytes that passed so far, unless some were no header
abbrev pub HasFollowedBytes : Frames → List ℕ → Type 0
HasFollowedBytes frames bytes = frames.is_lost ≡ false → AreFramesSoFar frames bytes

-- no header and no payload is begun, no frame of a message is still to come, and all bytes were frames
abbrev pub AreWhole : Frames → Type 0
AreWhole frames =
    (frames.filled ≡ 0) × (frames.left ≡ 0) × (frames.is_split ≡ false) × (frames.is_lost ≡ false)

-- in a frame with this header and so many bytes, once the header is whole
abbrev pub entered : FrameHeader → ℕ → Frames → Frames
entered h n frames = record frames { filled = 0; left = n; is_split = split_behind h frames.is_split }
