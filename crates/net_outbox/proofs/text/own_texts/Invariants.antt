-- What was taken in and what is left are all.
use Rattle.std.proofs.Common.{◌≡◌, ◌++◌, map}
use Rattle.std.specs.Vec.Iter.{into_iter_items}
use Rattle.net_outbox.specs.Texts.{text_bytes}
use Rattle.net_outbox.proofs.text.own_texts.Given as goal

abbrev pub invariant-loop-text : goal.invariant-loop-text
invariant-loop-text l = map text_bytes l.own.items ++ map (λ t. t.items) (into_iter_items l.text-iterator) ≡ map (λ t. t.items) (into_iter_items l.initial.text-iterator)
