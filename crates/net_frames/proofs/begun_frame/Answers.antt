use Rattle.std.proofs.Common.{◌≡◌, ℕ, ◌+◌, List, ◌++◌, length, ap, sym, subst, ◌∙◌, append_assoc, length-append, arith}
use Rattle.std.specs.Prelude.{None}
use Rattle.websocket.specs.Connection.{whole_header}
use Rattle.websocket.specs.FrameHeader.{encode_header}
use Rattle.websocket.specs.declared.protocol.frame.coding.Data.TheVariants as data_code
use Rattle.websocket.specs.declared.protocol.frame.coding.OpCode.TheVariants as Op
use Rattle.net_frames.proofs.begun_frame.Goals as goal

-- the header, and then the bytes of its own
pub returns : goal.returns
returns c =
    let h = whole_header (Op.Data data_code.Binary) None in
    let own = c.args.own.now in
    let shared = c.args.shared.now in
    let len : c.in-Some.len ≡ length (own ++ shared) = omega (arith, length-append own shared) in
    let head = c.in_ok-format.ensures.ok ∙ ap (λ (l : List ℕ). l ++ encode_header c.new-header.result c.in-Some.len) c.in_ok-begun.ensures.items
    ∙ ap (λ header. encode_header header c.in-Some.len) c.new-header.ensures ∙ ap (encode_header h) len in
    let begun = c.in_ok-extend_from_slice.ensures.items ∙ ap (λ (l : List ℕ). l ++ own) head in
    ap (λ (l : List ℕ). l ++ shared) begun ∙ append_assoc (encode_header h (length (own ++ shared))) own shared
