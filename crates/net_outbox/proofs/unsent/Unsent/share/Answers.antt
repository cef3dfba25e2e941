-- All that waited and more as the first part, and then those that are shared.
use Rattle.std.proofs.Common.{ℕ, List, ◌++◌, ◌-◌, length, take, drop, ap, ◌∙◌}
use Rattle.net_outbox.proofs.Parts.{from_place, shared_behind}
use Rattle.net_outbox.proofs.unsent.Unsent.share.Goals as goal

pub returns-clause-ok : goal.returns-clause-ok
returns-clause-ok c =
    let u = c.self.inside in
    let first = c.in_ok-extend_from_slice.ensures.items ∙ ap (λ (l : List ℕ). l ++ take (length c.deref.result.now - u.sent) (drop u.sent c.deref.result.now)) c.in_ok-bytes.ensures.items ∙ (from_place u.bytes.items c.deref.result.now u.sent c.deref.ensures.value) in
    let shared = c.in_ok-extend_from_slice-2.ensures.items ∙ ap (λ l. l ++ c.as_slice.result.now) first ∙ ap (λ l. drop u.sent u.bytes.items ++ l) c.as_slice.ensures in
    let behind = c.in_ok-extend_from_slice-3.ensures.items ∙ ap (λ l. l ++ c.deref-2.result.now) shared ∙ ap (λ l. (drop u.sent u.bytes.items ++ u.shared) ++ l) c.deref-2.ensures.value in
    let all = c.in_ok-extend_from_slice-4.ensures.items ∙ ap (λ l. l ++ c.args.own.now) behind in
    let lent = ap (λ (l : List ℕ). c.extend_from_slice-4.new.self.items ++ (l ++ c.new.result.items)) c.in_ok-shared.ensures.cases in
    let none = ap (λ (l : List ℕ). c.extend_from_slice-4.new.self.items ++ (c.args.shared.now ++ l)) c.new.ensures.items in
    rw (← c.self.view_is) (lent ∙ none ∙ shared_behind (drop u.sent u.bytes.items) u.shared u.behind.items c.args.own.now c.args.shared.now c.extend_from_slice-4.new.self.items all)
