use Rattle.std.proofs.Common.{◌≡◌, drop, map}
use Rattle.app_tokens.specs.Carried.{carry, nothing, seen_carried, tokens_in_fields, tokens_of}
use Rattle.app_tokens.proofs.carried.carried_by.Given as goal

-- what is carried so far and the fields that are left make what all of the request makes
abbrev pub invariant-loop-field : goal.invariant-loop-field
invariant-loop-field l =
    carry (seen_carried l.carried) (tokens_in_fields (map (λ field. (field.0.now, field.1.now)) (drop l.field-index l.fields)))
    ≡ carry nothing (tokens_of l.target (map (λ field. (field.0.now, field.1.now)) l.fields))
