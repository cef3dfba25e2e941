-- What is left is the same.
use Rattle.std.proofs.Common.{ℕ, List, ◌++◌, length, ap, sym, ◌∙◌}
use Rattle.net_outbox.proofs.unsent.Unsent.tidy.Goals as goal

pub returns : goal.returns
returns c = ap (λ (l : List ℕ). l ++ (c.self.inside.shared ++ c.self.inside.behind.items)) c.let_go-self-inside.ensures.rest ∙ c.self.view_is

pub invariant_of-self : goal.invariant_of-self
invariant_of-self c = record {
  within = c.let_go-self-inside.ensures.within;
  counted = c.self.invariant.counted ∙ ap (λ (l : List ℕ). length (l ++ (c.self.inside.shared ++ c.self.inside.behind.items))) (sym c.let_go-self-inside.ensures.rest);
  in_order = c.self.invariant.in_order;
}
