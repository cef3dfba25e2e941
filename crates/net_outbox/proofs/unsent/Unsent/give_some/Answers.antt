-- The first part, or those that are shared.
use Rattle.std.proofs.Common.{ℕ, ◌≤◌, List, [], ◌++◌, length, take, drop, sym, ap, subst, ◌∙◌, arith, length-drop}
use Rattle.std.specs.Io.KnownBytes.{Appends}
use Rattle.net_outbox.specs.Giving.{Gives}
use Rattle.net_outbox.proofs.Parts.{behind_first, from_place, given_length, gives_first, gives_shared, is_nil}
use Rattle.net_outbox.proofs.unsent.Unsent.give_some.Goals as goal

pub returns-then-self-len-clause-gives : goal.returns-then-self-len-clause-gives
returns-then-self-len-clause-gives g c =
    let u = c.self.inside in
    let same = from_place u.bytes.items c.deref.result.now u.sent c.deref.ensures.value in
    let fits = subst (λ (l : List ℕ). c.in_ok-count.count ≤ length l) same c.in_ok-count.ensures.bound in
    let took = subst (λ (l : List ℕ). Appends (g.S.Write.contents c.args.stream.now) (g.S.Write.contents c.write.new.self) (take c.in_ok-count.count l)) same c.in_ok-count.ensures.bytes in
    rw (← c.self.view_is) (gives_first _ _ u.bytes.items (u.shared ++ u.behind.items) u.sent c.in_ok-count.count fits took)

pub invariant_of-self : goal.invariant_of-self
invariant_of-self g c =
    let u = c.self.inside in
    let same = from_place u.bytes.items c.deref.result.now u.sent c.deref.ensures.value in
    let fits = subst (λ (l : List ℕ). c.in_ok-count.count ≤ length l) same c.in_ok-count.ensures.bound in
    let took = subst (λ (l : List ℕ). Appends (g.S.Write.contents c.args.stream.now) (g.S.Write.contents c.write.new.self) (take c.in_ok-count.count l)) same c.in_ok-count.ensures.bytes in
    let left = given_length _ _ c.in_ok-count.count _ _ (gives_first _ _ u.bytes.items (u.shared ++ u.behind.items) u.sent c.in_ok-count.count fits took) in
    record {
      within = omega (arith, c.self.invariant.within, fits, length-drop u.sent u.bytes.items);
      counted = omega (arith, c.self.invariant.counted, left);
      in_order = c.self.invariant.in_order;
    }

-- those that are shared, of which some are left
pub returns-then-not-is_empty-clause-gives : goal.returns-then-not-is_empty-clause-gives
returns-then-not-is_empty-clause-gives g c =
    let u = c.self.inside in
    let past : length u.bytes.items ≤ u.sent = omega (arith, c.if-self-len.false, c.len.ensures, u.bytes.ok.0) in
    let fits = subst (λ (l : List ℕ). c.in_ok-count-2.count ≤ length l) c.as_slice.ensures c.in_ok-count-2.ensures.bound in
    let took = subst (λ (l : List ℕ). Appends (g.S.Write.contents c.args.stream.now) (g.S.Write.contents c.write-2.new.self) (take c.in_ok-count-2.count l)) c.as_slice.ensures c.in_ok-count-2.ensures.bytes in
    rw (← c.self.view_is, c.advance.ensures) (gives_shared _ _ u.bytes.items u.shared u.behind.items u.sent c.in_ok-count-2.count past fits took)

-- those that are shared, all of them: those behind them are the first now
pub returns-clause-gives : goal.returns-clause-gives
returns-clause-gives g c =
    let u = c.self.inside in
    let past : length u.bytes.items ≤ u.sent = omega (arith, c.if-self-len.false, c.len.ensures, u.bytes.ok.0) in
    let fits = subst (λ (l : List ℕ). c.in_ok-count-2.count ≤ length l) c.as_slice.ensures c.in_ok-count-2.ensures.bound in
    let took = subst (λ (l : List ℕ). Appends (g.S.Write.contents c.args.stream.now) (g.S.Write.contents c.write-2.new.self) (take c.in_ok-count-2.count l)) c.as_slice.ensures c.in_ok-count-2.ensures.bytes in
    let gone = sym c.advance.ensures ∙ is_nil c.advance.new.self c.is_empty.result c.is_empty.ensures c.if-not-is_empty.false in
    let next = behind_first u.bytes.items (drop c.in_ok-count-2.count u.shared) u.behind.items u.sent past gone ∙ ap (λ l. drop 0 u.behind.items ++ (l ++ [])) gone in
    rw (← c.self.view_is, c.replace.ensures.value, c.replace.ensures.after, c.new-none.ensures.items, c.new-nothing.ensures)
    (subst (λ (l : List ℕ). Gives (g.S.Write.contents c.args.stream.now) (g.S.Write.contents c.write-2.new.self) c.in_ok-count-2.count (drop u.sent u.bytes.items ++ (u.shared ++ u.behind.items)) l) next
    (gives_shared _ _ u.bytes.items u.shared u.behind.items u.sent c.in_ok-count-2.count past fits took))
