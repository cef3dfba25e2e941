-- Behind the first part where none are shared, and else behind those.
use Rattle.std.proofs.Common.{ℕ, List, ◌++◌, length, drop, ap, ◌∙◌, arith, length-append}
use Rattle.net_outbox.proofs.Parts.{is_nil, not_nil, pushed_behind, pushed_first}
use Rattle.net_outbox.proofs.unsent.Unsent.push.Goals as goal

pub returns-then-is_empty-clause-ok : goal.returns-then-is_empty-clause-ok
returns-then-is_empty-clause-ok c =
    let u = c.self.inside in
    let none = is_nil u.shared c.is_empty.result c.is_empty.ensures c.if-is_empty.true in
    rw (← c.self.view_is, c.in_ok-extend_from_slice.ensures.items) (pushed_first u.bytes.items u.shared u.behind.items c.args.more.now u.sent c.self.invariant.within none (c.self.invariant.in_order none))

pub invariant_of-self-then-is_empty : goal.invariant_of-self-then-is_empty
invariant_of-self-then-is_empty c =
    let u = c.self.inside in
    let none = is_nil u.shared c.is_empty.result c.is_empty.ensures c.if-is_empty.true in
    let items = c.in_ok-extend_from_slice.ensures.items in
    let all = pushed_first u.bytes.items u.shared u.behind.items c.args.more.now u.sent c.self.invariant.within none (c.self.invariant.in_order none) in
    let longer = ap (λ (l : List ℕ). length (drop u.sent l ++ (u.shared ++ u.behind.items))) items ∙ ap length all ∙ length-append (drop u.sent u.bytes.items ++ (u.shared ++ u.behind.items)) c.args.more.now in
    record {
      within = omega (arith, c.self.invariant.within, ap length items, length-append u.bytes.items c.args.more.now);
      counted = omega (arith, c.self.invariant.counted, longer);
      in_order = c.self.invariant.in_order;
    }

pub returns-clause-ok : goal.returns-clause-ok
returns-clause-ok c =
    let u = c.self.inside in
    rw (← c.self.view_is, c.in_ok-extend_from_slice-2.ensures.items) (pushed_behind (drop u.sent u.bytes.items) u.shared u.behind.items c.args.more.now)

pub invariant_of-self-2 : goal.invariant_of-self-2
invariant_of-self-2 c =
    let u = c.self.inside in
    let items = c.in_ok-extend_from_slice-2.ensures.items in
    let all = pushed_behind (drop u.sent u.bytes.items) u.shared u.behind.items c.args.more.now in
    let longer = ap (λ (l : List ℕ). length (drop u.sent u.bytes.items ++ (u.shared ++ l))) items ∙ ap length all ∙ length-append (drop u.sent u.bytes.items ++ (u.shared ++ u.behind.items)) c.args.more.now in
    record {
      within = c.self.invariant.within;
      counted = omega (arith, c.self.invariant.counted, longer);
      in_order = λ none. absurd (not_nil u.shared c.is_empty.result c.is_empty.ensures c.if-is_empty.false none);
    }
