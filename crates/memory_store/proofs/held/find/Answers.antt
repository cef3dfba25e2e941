use Rattle.std.proofs.Common.{◌<◌, length, arith, sym, ◌∙◌, ap}
use Rattle.std.proofs.lemmas.List.{get_or_default}
use Rattle.memory_store.specs.declared.held.Held.{Held}
use Rattle.memory_store.proofs.Holding.{bytes_found, size_none}
use Rattle.memory_store.proofs.held.find.Goals as goal

pub returns-then-segment-number-clause-bytes : goal.returns-then-segment-number-clause-bytes
returns-then-segment-number-clause-bytes c h =
    let xs = c.args.held.now in
    let i = c.loop-i.i in
    let x = c.index-held-i.result in
    let within : i < length xs = c.loop-i-test.true in
    bytes_found c.args.number xs i h within (λ d. ap (λ (w : Held). w.number) (get_or_default xs i d x within ∙ sym c.index-held-i.is) ∙ c.if-segment-number.true) c.loop-i.invariant

pub unreachable-requires : goal.unreachable-requires
unreachable-requires c = c.requires (size_none c.args.number c.args.held.now (λ k h less. c.loop-i.invariant k h (omega (arith, less, c.loop-i-test.false))))
