-- A host that is shorter than a name.
use Rattle.std.proofs.Common.{◌≡◌, ℕ, ◌<◌, Bool, false, ◌&&◌, List, length, take, drop, sym, ap, ◌∙◌, arith}
use Rattle.std.proofs.lemmas.List.{length-take}
use Rattle.net_http.specs.Hosts.{is_host_named, is_port}
use Rattle.net_http.proofs.Words.{is_same_word-shorter}

-- it hasn't that name
pub no_name : (host name : List ℕ) → length host < length name → false ≡ is_host_named host name
no_name host name short =
    let begin : length (take (length name) host) < length name = omega (arith, length-take (length name) host) in
    sym (ap (λ (b : Bool). b && is_port (drop (length name) host)) (is_same_word-shorter (take (length name) host) name begin))
