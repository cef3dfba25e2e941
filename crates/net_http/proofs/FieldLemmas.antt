-- A field that asks for WebSocket, among those that stand, and how many stand at most.
use Rattle.std.proofs.Common.{◌≡◌, ℕ, ◌+◌, ◌<◌, ◌≤◌, true, false, ◌||◌, List, [], ◌∷◌, length, take, get_or, map, sym, ap, ◌∙◌, arith}
use Rattle.std.proofs.lemmas.List.{length-map, length-take, get_or-map}
use Rattle.std.proofs.lemmas.List.Folds.{list_any-append, list_any_at}
use Rattle.httparse.specs.declared.spans.HeaderSpan.{HeaderSpan}
use Rattle.httparse.specs.Grammar.{Field}
use Rattle.httparse.specs.Spans.{AreFieldsAt, header_bytes, name_and_value}
use Rattle.net_heads.proofs.Found.{fields_more}
use Rattle.net_http.specs.Fields.{asks_upgrade, is_handshake}

-- whether one span more asks for WebSocket
pub is_handshake-more : (bytes : List ℕ) (spans : List HeaderSpan) (i : ℕ) (d : HeaderSpan) → i < length spans
    → is_handshake (map (header_bytes bytes) (take (i + 1) spans))
    ≡ (is_handshake (map (header_bytes bytes) (take i spans)) || (asks_upgrade (header_bytes bytes (get_or spans i d)) || false))
is_handshake-more bytes spans i d below =
    ap is_handshake (fields_more bytes spans i d below)
    ∙ list_any-append asks_upgrade (map (header_bytes bytes) (take i spans)) (header_bytes bytes (get_or spans i d) ∷ [])

-- a field that asks for WebSocket makes a handshake
pub handshake_at : (bytes : List ℕ) (spans : List HeaderSpan) (i : ℕ) (d : HeaderSpan) → i < length spans
    → true ≡ asks_upgrade (header_bytes bytes (get_or spans i d)) → true ≡ is_handshake (map (header_bytes bytes) spans)
handshake_at bytes spans i d below asks =
    let within : i < length (map (header_bytes bytes) spans) = omega (arith, length-map spans (header_bytes bytes)) in
    sym (list_any_at asks_upgrade (map (header_bytes bytes) spans) i (header_bytes bytes d) within
    (ap asks_upgrade (get_or-map (header_bytes bytes) spans i d (header_bytes bytes d) below) ∙ sym asks))

-- fields that stand at spans are no more than those
pub few_fields : (bytes : List ℕ) (spans : List HeaderSpan) (count most : ℕ) (fields : List Field) → AreFieldsAt bytes spans count fields → length spans ≡ most → length fields ≤ most
few_fields bytes spans count most fields are long =
    let same : length (map (header_bytes bytes) (take count spans)) ≡ length (map name_and_value fields) = ap length are in
    omega (arith, length-map (take count spans) (header_bytes bytes), length-map fields name_and_value, length-take count spans)
