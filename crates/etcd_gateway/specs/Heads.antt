-- The heads of answers, and how they tell how long a body is.
use Rattle.std.specs.Prelude.{◌≡◌, ℕ, ◌≤◌, List, [], ◌∷◌, length, map, codes, Option, Some, None, option_map, if◌then◌else◌}
use Rattle.httparse.specs.Grammar.{ResponseHead, ReadsResponse, print_response, status_code}
use Rattle.httparse.specs.Spans.{name_and_value}
use Rattle.canvas_decimals.specs.Decimals.{whole_of}
use Rattle.net_heads.specs.Fields.{NamesAndValues, is_same_word, values_named}
use Rattle.etcd_gateway.specs.declared.head.AnswerHead.{AnswerHead}
use Rattle.etcd_gateway.specs.declared.head.Framing.{Framing}
use Rattle.etcd_gateway.specs.declared.head.Framing.TheVariants.{Sized, Chunked}

-- a body is as long as one `Content-Length` says, or in chunks where one `Transfer-Encoding` says so; never both
abbrev pub framing_by : List (List ℕ) → List (List ℕ) → Option Framing
framing_by [] (size ∷ []) = option_map Sized (whole_of size)
framing_by (coding ∷ []) [] = if is_same_word coding (codes "chunked") then Some Chunked else None
framing_by _ _ = None

-- how the fields of a head say how long the body is
abbrev pub framing_of : NamesAndValues → Option Framing
framing_of fields = framing_by (values_named (codes "transfer-encoding") fields) (values_named (codes "content-length") fields)

-- the same, of a head of HTTP's grammar
abbrev pub framing_in : ResponseHead → Option Framing
framing_in head = framing_of (map name_and_value head.fields)

-- what an answer's head says, where it says how long the body is
abbrev pub answer_head_of : ResponseHead → Option AnswerHead
answer_head_of head = option_map (λ framing. record { status = status_code head; framing = framing; length = length (print_response head) }) (framing_in head)

-- the bytes begin with this head, and it has at most 64 fields
abbrev pub BeginsWithResponse : List ℕ → ResponseHead → Type 0
BeginsWithResponse bytes head = ((rest : List ℕ) × ReadsResponse bytes head rest) × (length head.fields ≤ 64)
