use Rattle.std.proofs.Common.{◌≡◌, map, take, Some}
use Rattle.serde_json.specs.View.{view}
use Rattle.etcd_gateway.specs.Answers.{pair_in, seen_pair}
use Rattle.etcd_gateway.proofs.AnswerLemmas.{read_each}
use Rattle.etcd_gateway.proofs.answers.pairs_in.Given as goal

-- the first ones are read
abbrev pub invariant-loop-item : goal.invariant-loop-item
invariant-loop-item l = read_each (λ v. pair_in (view v)) (take l.item-index l.items) ≡ Some (map seen_pair l.pairs.items)
