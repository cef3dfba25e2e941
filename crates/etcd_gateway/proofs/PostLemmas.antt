-- The head of a request is a head of HTTP's grammar.
use Rattle.std.proofs.Common.{◌≡◌, ℕ, ◌<◌, ◌^◌, true, List, [], ◌∷◌, ◌++◌, length, codes, decimal, refl, sym, ap, ◌∙◌, append_assoc, arith, IsTrue, IsUtf8, append-nil, subst, Some}
use Rattle.std.specs.List.{list_all, All}
use Rattle.std.specs.Char.{is_ascii}
use Rattle.std.proofs.lemmas.Bool.{and_parts}
use Rattle.std.proofs.lemmas.Str.{IsUtf8-from_ascii}
use Rattle.std.proofs.lemmas.Str.Ascii.{IsAscii-from_all}
use Rattle.std.proofs.lemmas.Bool.Decides.{nat_tests}
use Rattle.std.proofs.lemmas.List.Elements.{All-weaker, All-from_recursion}
use Rattle.std.proofs.lemmas.List.Sums.{AllPass-from_list_all}
use Rattle.httparse.specs.Ascii.{crlf_bytes, space}
use Rattle.httparse.specs.Grammar.{AllPass, IsField, ReadsRequest, is_token_byte, is_uri_byte, is_value_byte, print_blank, print_end, print_request, print_version, crlf}
use Rattle.serde_json.specs.Data.{Data}
use Rattle.serde_json.specs.Read.{read}
use Rattle.serde_json.specs.Written.{compact_text}
use Rattle.net_heads.specs.Written.{field_line}
use Rattle.net_heads.proofs.Written.{is_field, size_passes}
use Rattle.etcd_gateway.specs.declared.posts.GatewayCall.{GatewayCall}
use Rattle.etcd_gateway.specs.declared.posts.GatewayCall.TheVariants as call
use Rattle.etcd_gateway.specs.Hosts.{is_host, is_url_host_byte}
use Rattle.etcd_gateway.specs.Posts.{SpellsPost, post_head_text, call_path, post_head}

-- the lines of a head without brackets
pub head_regroup : (a p v e n s h m t z : List ℕ)
    → a ++ p ++ v ++ e ++ (n ++ s ++ h ++ e) ++ m ++ (t ++ s ++ z ++ e) ++ e
    ≡ a ++ (p ++ (v ++ (e ++ (n ++ (s ++ (h ++ (e ++ (m ++ (t ++ (s ++ (z ++ (e ++ e))))))))))))
head_regroup a p v e n s h m t z = simp append_assoc

-- the first line
start_is : (asked : GatewayCall) → codes "POST " ++ call_path asked ++ codes " HTTP/1.1" ++ crlf_bytes
    ≡ print_blank [] ++ codes "POST" ++ space ∷ call_path asked ++ space ∷ print_version 1 ++ print_end crlf
start_is call.Range = refl
start_is call.Commit = refl
start_is call.Grant = refl
start_is call.KeepAlive = refl
start_is call.Revoke = refl

lines_regroup : (a l m c e : List ℕ) → a ++ l ++ m ++ c ++ e ≡ a ++ ((l ++ (m ++ c)) ++ e)
lines_regroup a l m c e = simp append_assoc

-- the text of a head is that of its tree
pub head_text_is : (host : List ℕ) (asked : GatewayCall) (size : ℕ) → post_head_text host asked size ≡ print_request (post_head host asked size)
unfolding print_request
head_text_is host asked size =
    lines_regroup (codes "POST " ++ call_path asked ++ codes " HTTP/1.1" ++ crlf_bytes) (field_line (codes "Host") host)
    (field_line (codes "Content-Type") (codes "application/json")) (field_line (codes "Content-Length") (decimal size)) crlf_bytes
    ∙ ap (λ (a : List ℕ). a ++ ((field_line (codes "Host") host ++ (field_line (codes "Content-Type") (codes "application/json")
    ++ field_line (codes "Content-Length") (decimal size))) ++ crlf_bytes)) (start_is asked)
    ∙ ap (λ (c : List ℕ). (print_blank [] ++ codes "POST" ++ space ∷ call_path asked ++ space ∷ print_version 1 ++ print_end crlf)
    ++ ((field_line (codes "Host") host ++ (field_line (codes "Content-Type") (codes "application/json") ++ c)) ++ crlf_bytes)) (sym (append-nil (field_line (codes "Content-Length") (decimal size))))

-- ---- its parts

host_byte_passes : (b : ℕ) → is_url_host_byte b ≡ true → IsTrue (is_value_byte b)
host_byte_passes b host = grind (arith, nat_tests)

host_passes : (host : List ℕ) → is_host host ≡ true → AllPass is_value_byte host
host_passes host is =
    All-weaker (λ b. is_url_host_byte b ≡ true) (λ b. IsTrue (is_value_byte b)) host_byte_passes host (AllPass-from_list_all is_url_host_byte host (and_parts _ (list_all is_url_host_byte host) is).1)

path_passes : (asked : GatewayCall) → (0 < length (call_path asked)) × AllPass is_uri_byte (call_path asked)
path_passes call.Range = (omega arith, AllPass-from_list_all is_uri_byte (call_path call.Range) refl)
path_passes call.Commit = (omega arith, AllPass-from_list_all is_uri_byte (call_path call.Commit) refl)
path_passes call.Grant = (omega arith, AllPass-from_list_all is_uri_byte (call_path call.Grant) refl)
path_passes call.KeepAlive = (omega arith, AllPass-from_list_all is_uri_byte (call_path call.KeepAlive) refl)
path_passes call.Revoke = (omega arith, AllPass-from_list_all is_uri_byte (call_path call.Revoke) refl)

ascii : (bytes : List ℕ) → list_all is_ascii bytes ≡ true → IsUtf8 bytes
ascii bytes passes =
    IsUtf8-from_ascii bytes (IsAscii-from_all bytes (All-weaker (λ b. IsTrue (is_ascii b)) (λ b. b < 128) (λ b h. grind (arith, nat_tests)) bytes (AllPass-from_list_all is_ascii bytes passes)))

path_is_text : (asked : GatewayCall) → IsUtf8 (call_path asked)
path_is_text call.Range = ascii (call_path call.Range) refl
path_is_text call.Commit = ascii (call_path call.Commit) refl
path_is_text call.Grant = ascii (call_path call.Grant) refl
path_is_text call.KeepAlive = ascii (call_path call.KeepAlive) refl
path_is_text call.Revoke = ascii (call_path call.Revoke) refl

fields_pass : (host : List ℕ) (size : ℕ) → is_host host ≡ true → size < 2 ^ 64 → All IsField (post_head host call.Range size).fields
unfolding is_token_byte
fields_pass host size named small =
    All-from_recursion IsField (post_head host call.Range size).fields (
      is_field (codes "Host") host (omega arith) refl (host_passes host named),
      (
        is_field (codes "Content-Type") (codes "application/json") (omega arith) refl (AllPass-from_list_all is_value_byte (codes "application/json") refl),
        (
          is_field (codes "Content-Length") (decimal size) (omega arith) refl (size_passes size small),
          tt,
        ),
      ),
    )

-- a request is read as its head, and its body is left
post_reads : (host : List ℕ) (asked : GatewayCall) (size : ℕ) (bytes body : List ℕ) → is_host host ≡ true → size < 2 ^ 64
    → bytes ≡ post_head_text host asked size ++ body → ReadsRequest bytes (post_head host asked size) body
unfolding is_token_byte
post_reads host asked size bytes body named small is = (
  record {
    method = (omega arith, AllPass-from_list_all is_token_byte (codes "POST") refl);
    target = path_passes asked;
    target_text = path_is_text asked;
    minor = omega arith;
    fields = fields_pass host size named small;
  },
  is ∙ ap (λ (head : List ℕ). head ++ body) (head_text_is host asked size),
)

-- a head and a body ask what they spell
pub post_asks : (bytes head body host : List ℕ) (asked : GatewayCall) (size : ℕ) (tree : Data) → is_host host ≡ true → size < 2 ^ 64 → size ≡ length body
    → body ≡ compact_text tree → head ≡ post_head_text host asked size → bytes ≡ head ++ body → read body ≡ Some tree → SpellsPost bytes host asked tree
post_asks bytes head body host asked size tree named small long body_is head_is bytes_is reads =
    let size_is : size ≡ length (compact_text tree) = long ∙ ap (λ (t : List ℕ). length t) body_is in
    let text : bytes ≡ post_head_text host asked (length (compact_text tree)) ++ compact_text tree =
    bytes_is ∙ ap (λ (h : List ℕ). h ++ body) (head_is ∙ ap (post_head_text host asked) size_is)
    ∙ ap (λ (b : List ℕ). post_head_text host asked (length (compact_text tree)) ++ b) body_is in
    record {
      text = text;
      head = post_reads host asked (length (compact_text tree)) bytes (compact_text tree) named (subst (λ (n : ℕ). n < 2 ^ 64) size_is small) text;
      reads_back = sym (ap (λ (t : List ℕ). read t) body_is) ∙ reads;
    }
