-- A request of HTTP: a POST of a JSON text.
use Rattle.std.specs.Prelude.{◌≡◌, ℕ, List, [], ◌∷◌, ◌++◌, length, codes, Some}
use Rattle.std.specs.Fmt.{decimal}
use Rattle.httparse.specs.Ascii.{crlf_bytes}
use Rattle.httparse.specs.Grammar.{crlf, RequestHead, ReadsRequest}
use Rattle.serde_json.specs.Data.{Data}
use Rattle.serde_json.specs.Read.{read}
use Rattle.serde_json.specs.Written.{compact_text}
use Rattle.net_heads.specs.Written.{field, field_line}
use Rattle.etcd_gateway.specs.declared.posts.GatewayCall.{GatewayCall}
use Rattle.etcd_gateway.specs.declared.posts.GatewayCall.TheVariants as call

-- where each call is asked
abbrev pub call_path : GatewayCall → List ℕ
call_path call.Range = codes "/v3/kv/range"
call_path call.Commit = codes "/v3/kv/txn"
call_path call.Grant = codes "/v3/lease/grant"
call_path call.KeepAlive = codes "/v3/lease/keepalive"
call_path call.Revoke = codes "/v3/lease/revoke"

-- a head: what is asked of which host, and how long a JSON text follows
abbrev pub post_head_text : List ℕ → GatewayCall → ℕ → List ℕ
post_head_text host asked size =
    codes "POST " ++ call_path asked ++ codes " HTTP/1.1" ++ crlf_bytes
    ++ field_line (codes "Host") host
    ++ field_line (codes "Content-Type") (codes "application/json")
    ++ field_line (codes "Content-Length") (decimal size)
    ++ crlf_bytes

-- the same head as one of HTTP's grammar
abbrev pub post_head : List ℕ → GatewayCall → ℕ → RequestHead
post_head host asked size = record {
  blank = [];
  method = codes "POST";
  target = call_path asked;
  minor = 1;
  line_end = crlf;
  fields = field (codes "Host") host ∷ field (codes "Content-Type") (codes "application/json") ∷ field (codes "Content-Length") (decimal size) ∷ [];
  last = crlf;
}

-- the bytes ask this: a head, and behind it the tree's JSON text, with no blank outside its texts, which reads as the tree again
pub record SpellsPost (bytes : List ℕ) (host : List ℕ) (asked : GatewayCall) (tree : Data) : Type 0 where
  pub text : bytes ≡ post_head_text host asked (length (compact_text tree)) ++ compact_text tree
  pub head : ReadsRequest bytes (post_head host asked (length (compact_text tree))) (compact_text tree)
  pub reads_back : read (compact_text tree) ≡ Some tree
