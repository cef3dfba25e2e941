-- Which hosts are this server's.
use Rattle.std.specs.Prelude.{◌<◌, ℕ, Bool, ◌&&◌, ◌||◌, ◌==◌, List, length, take, drop, codes, nat_eq, nat_le, IsTrue}
use Rattle.std.specs.List.{list_all, list_any, starts_with}
use Rattle.net_heads.specs.Fields.{is_same_word}
use Rattle.net_http.specs.Origins.{is_host_byte}
use Rattle.net_http.specs.Sites.{SiteValue}

-- a digit
abbrev pub is_digit : ℕ → Bool
is_digit b = nat_le 48 b && nat_le b 57

-- nothing, or a colon and the digits of a port
abbrev pub is_port : List ℕ → Bool
is_port text = length text == 0 || (starts_with nat_eq text (codes ":") && list_all is_digit (drop 1 text))

-- the host has this name, whatever the case of its letters, and a port may follow
abbrev pub is_host_named : List ℕ → List ℕ → Bool
is_host_named host name = is_same_word (take (length name) host) name && is_port (drop (length name) host)

-- the host is the machine itself
abbrev pub is_local_host : List ℕ → Bool
is_local_host host =
    is_host_named host (codes "localhost") || is_host_named host (codes "127.0.0.1") || is_host_named host (codes "[::1]")

-- the host is the machine itself, or one that the site names
abbrev pub is_own_host : SiteValue → List ℕ → Bool
is_own_host site host = is_local_host host || list_any (is_host_named host) site.hosts

-- a host that a site may name: some letters in lower case, digits, `-`, `.`, `:`, `[`, `]` or `_`
abbrev pub IsHost : List ℕ → Type 0
IsHost text = (0 < length text) × IsTrue (list_all is_host_byte text)
