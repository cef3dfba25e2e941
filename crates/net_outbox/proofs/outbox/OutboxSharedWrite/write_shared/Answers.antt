-- What was written joins what waits.
use Rattle.std.proofs.Common.{◌≡◌, ℕ, List, ◌++◌, refl, ap, sym, ◌∙◌, append-nil}
use Rattle.std.proofs.lemmas.Result.{on_ok_weaker}
use Rattle.net_outbox.specs.declared.outbox.Outbox.{Outbox}
use Rattle.net_outbox.proofs.Left.{grows}
use Rattle.net_outbox.proofs.Parts.{is_nil}
use Rattle.net_outbox.proofs.outbox.OutboxSharedWrite.write_shared.Goals as goal

pub returns-then-is_empty-clause-ok : goal.returns-then-is_empty-clause-ok
returns-then-is_empty-clause-ok g c =
    let none = is_nil c.args.shared.now c.is_empty.result c.is_empty.ensures c.if-is_empty.true in
    let alone : c.args.own.now ++ c.args.shared.now ≡ c.args.own.now = ap (λ (l : List ℕ). c.args.own.now ++ l) none ∙ append-nil c.args.own.now in
    let new : Outbox g.row.S.Denot = record (c.args.self.now) { unsent = c.push.new.self } in
    on_ok_weaker c.push.result (λ h. grows g.S.Write.contents c.args.self.now new (c.args.own.now ++ c.args.shared.now) refl (h ∙ ap (λ (l : List ℕ). c.args.self.now.unsent ++ l) (sym alone))) c.push.ensures.ok

pub returns-then-is_empty-clause-waits : goal.returns-then-is_empty-clause-waits
returns-then-is_empty-clause-waits g c =
    let none = is_nil c.args.shared.now c.is_empty.result c.is_empty.ensures c.if-is_empty.true in
    let alone : c.args.own.now ++ c.args.shared.now ≡ c.args.own.now = ap (λ (l : List ℕ). c.args.own.now ++ l) none ∙ append-nil c.args.own.now in
    on_ok_weaker c.push.result (λ h. h ∙ ap (λ (l : List ℕ). c.args.self.now.unsent ++ l) (sym alone)) c.push.ensures.ok

pub returns-else-is_empty-clause-ok : goal.returns-else-is_empty-clause-ok
returns-else-is_empty-clause-ok g c =
    let new : Outbox g.row.S.Denot = record (c.args.self.now) { unsent = c.share.new.self } in
    on_ok_weaker c.share.result (λ h. grows g.S.Write.contents c.args.self.now new (c.args.own.now ++ c.args.shared.now) refl h) c.share.ensures.ok
