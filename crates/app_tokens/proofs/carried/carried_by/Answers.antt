use Rattle.std.proofs.Common.{map, sym, ap, ◌∙◌, arith}
use Rattle.app_tokens.specs.Carried.{carry, nothing, seen_carried, tokens_in_fields, tokens_in_target, tokens_of}
use Rattle.app_tokens.proofs.Carries.{carry-append, carry-nothing, carry_all, carry_field}
use Rattle.app_tokens.proofs.carried.carried_by.Goals as goal

pub loop-field-init : goal.loop-field-init
loop-field-init c =
    ap (λ s. carry s (tokens_in_fields (map (λ field. (field.0.now, field.1.now)) c.args.fields.now))) c.with_target-carried.ensures
    ∙ sym (carry-append nothing (tokens_in_target c.args.target.now) (tokens_in_fields (map (λ field. (field.0.now, field.1.now)) c.args.fields.now)))

pub loop-field-preserved : goal.loop-field-preserved
loop-field-preserved c =
    carry_field (λ field. (field.0.now, field.1.now)) (seen_carried c.loop-field.carried) (seen_carried c.with_field-carried.result) c.args.fields.now c.loop-field.field-index _
    c.loop-field-test.true c.with_field-carried.ensures
    ∙ c.loop-field.invariant

pub returns : goal.returns
returns c =
    sym (carry_all (λ field. (field.0.now, field.1.now)) (seen_carried c.loop-field.carried) c.args.fields.now c.loop-field.field-index (omega arith))
    ∙ c.loop-field.invariant ∙ carry-nothing (tokens_of c.args.target.now (map (λ field. (field.0.now, field.1.now)) c.args.fields.now))
