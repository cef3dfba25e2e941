use Rattle.std.proofs.Common.{◌∙◌, sym, ap, codes, ◌++◌, List, ℕ}
use Rattle.std.proofs.lemmas.Option.{IfSome_then}
use Rattle.etcd_gateway.specs.Keys.{segments_key}
use Rattle.etcd_gateway.proofs.KeyLemmas.{key_parts, key_rest, weaker_none}
use Rattle.etcd_gateway.proofs.keys.place_of.Goals as goal

pub returns-in_err-digits-clause-none : goal.returns-in_err-digits-clause-none
returns-in_err-digits-clause-none c = rw c.from_residual.ensures (λ s o s_less o_less e. c.in_err-digits.ensures.none _ (e ∙ key_parts c.args.name.now s o))

pub returns-clause-some : goal.returns-clause-some
returns-clause-some c =
    IfSome_then c.place_in.result c.place_in.ensures.some
    (λ place h. c.in_ok-digits.ensures.some ∙ ap (λ (t : List ℕ). segments_key c.args.name.now ++ codes "/" ++ t) h ∙ sym (key_parts c.args.name.now place.segment place.chunk))

pub returns-clause-none : goal.returns-clause-none
returns-clause-none c =
    weaker_none c.place_in.result _ _
    (λ h s o s_less o_less e. h s o s_less o_less (key_rest c.args.name.now c.in_ok-digits.digits.now s o c.args.key.now c.in_ok-digits.ensures.some e))
    c.place_in.ensures.none
