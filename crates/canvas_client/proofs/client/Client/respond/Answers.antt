use Rattle.std.proofs.Common.{refl, ap}
use Rattle.std.proofs.lemmas.Result.{IfOk-weaker}
use Rattle.canvas_model.specs.Messages.{Welcome}
use Rattle.canvas_model.specs.Messages as messages
use Rattle.canvas_model.specs.Receive.{NotForMe, Receives}
use Rattle.canvas_judge.specs.Seen.{seen_copy, seen_message}
use Rattle.canvas_client.specs.Seen.{seen_received}
use Rattle.canvas_client.proofs.Receiving.{apart_as, apart_now, other_message}
use Rattle.canvas_client.proofs.client.Client.respond.Goals as goal

pub returns-in-Welcome-clause-apart : goal.returns-in-Welcome-clause-apart
returns-in-Welcome-clause-apart g c =
    apart_now c.args.self.now c.receive_welcome.new.self (seen_message c.args.message.now) (Welcome c.in-Welcome.id) (seen_received c.receive_welcome.result) (ap seen_message c.in-Welcome.is) c.receive_welcome.ensures.receives

pub returns-in-Entry-clause-apart : goal.returns-in-Entry-clause-apart
returns-in-Entry-clause-apart g c = IfOk-weaker c.receive_entry.result _ _ (λ answer r.
    apart_as c.args.self.now c.receive_entry.new.self (seen_message c.args.message.now) (messages.Entry c.in-Entry.version c.in-Entry.entry) (seen_received answer) (ap seen_message c.in-Entry.is) r) c.receive_entry.ensures.apart

pub returns-in-Copy-clause-apart : goal.returns-in-Copy-clause-apart
returns-in-Copy-clause-apart g c = IfOk-weaker c.receive_copy.result _ _ (λ answer r.
    apart_now c.args.self.now c.receive_copy.new.self (seen_message c.args.message.now) (seen_copy c.in-Copy.copy) (seen_received answer) (ap seen_message c.in-Copy.is) r) c.receive_copy.ensures.receives

pub returns-in_default : goal.returns-in_default
returns-in_default g c =
    let r : Receives c.args.self.now (seen_message c.args.message.now) NotForMe c.args.self.now = other_message c.args.self.now c.args.message.now c.in_default.not-Welcome c.in_default.not-Entry c.in_default.not-Copy in
    record { apart = (c.args.self.now.view, r); receives = λ follows. r; unchanged = refl; err = tt }
