-- What an exchange at a seat makes of a client, whether it came to its end or broke off.
use Rattle.std.proofs.Common.{ℕ, List, Result, Ok, Err, IfErr, OnOk}
use Rattle.canvas_model.specs.Change.{Change}
use Rattle.canvas_model.specs.Log.{Entry}
use Rattle.canvas_model.specs.Client.{Client}
use Rattle.canvas_model.specs.Laws.{EachEntryStands, EachVersionIsSound}
use Rattle.canvas_client.specs.Follow.{EachVerdictLeavesRoot}
use Rattle.canvas_board.specs.Marks.{Mark, Opening}
use Rattle.canvas_nodes.specs.declared.link.LinkError.{LinkError}
use Rattle.canvas_nodes.specs.Hears.{BreaksOff, Exchanges}
use Rattle.room_handler.specs.Links.{Grants, RefusesRound}
use Rattle.room_handler.specs.Exchanges.{ExchangesSeeOn}
use Rattle.room_handler.specs.Table.{SeesOn}
use Rattle.canvas_threads.specs.Follows.{AreFirstOf}
use Rattle.canvas_threads.specs.Histories.{FollowsAt, OpensAfter, log_of}
use Rattle.canvas_threads.specs.Exchanges.{CatchesUpAt, HasHeadline, KeepsFollowing}
use Rattle.canvas_threads.proofs.Exchanging.{broke_off, exchanged, exchanged_alone}
use Rattle.canvas_threads.proofs.Headlines.{headline}
use Rattle.canvas_threads.proofs.Rounds.{legal_at}

-- whichever it was, it was one of two
pub either : {V E C : Type 0} (A : Type 0) (B : E → Type 0) (r : Result V E) → (A → C) → ((e : E) → B e → C) → OnOk r A → IfErr r B → C
either A B (Ok v) ended broken ok err = ended ok
either A B (Err e) ended broken ok err = broken e err

module _ (sound : EachVersionIsSound) (stands_after : EachEntryStands) (leaves : EachVerdictLeavesRoot) (o : Opening) (old : Client) (before : List Mark) (new : Client) (after : List Mark) where
  pub with_headline : (past : List Entry) → OpensAfter o past → (c : ℕ) (edits : List Change) → AreFirstOf c edits (log_of past after) → FollowsAt o past c edits after new → FollowsAt o past c edits after new × HasHeadline (log_of past after) c edits new
  with_headline past opens c edits all f = (f, headline (log_of past after) (legal_at sound stands_after leaves o past opens c edits after f.legal) c edits all new f.follows)

  pub keeps_following : {V : Type 0} (r : Result V LinkError) → OnOk r (Exchanges (Grants o) (RefusesRound o) old before new after) → IfErr r (λ e. BreaksOff (Grants o) (RefusesRound o) e old before new after) → KeepsFollowing o old before new after
  keeps_following r ok err = λ past opens c edits f all. with_headline past opens c edits all
      (either (Exchanges (Grants o) (RefusesRound o) old before new after) (λ e. BreaksOff (Grants o) (RefusesRound o) e old before new after) r
      (λ h. exchanged sound stands_after leaves o past opens c edits old before new after f all h)
      (λ e h. broke_off sound stands_after leaves o past opens c edits e old before new after f all h) ok err)

  pub catches_up : Exchanges (Grants o) (RefusesRound o) old before new after → CatchesUpAt o old before new after
  catches_up h = λ past opens c edits f alone. exchanged_alone sound stands_after leaves o past opens c edits old before new after f alone h

-- what the seat has seen goes on
pub sees_on : {V : Type 0} (o : Opening) → ExchangesSeeOn o → (old : Client) (before : List Mark) (new : Client) (after : List Mark) (r : Result V LinkError)
    → OnOk r (Exchanges (Grants o) (RefusesRound o) old before new after) → IfErr r (λ e. BreaksOff (Grants o) (RefusesRound o) e old before new after) → SeesOn o before after
sees_on o law old before new after r ok err =
    either (Exchanges (Grants o) (RefusesRound o) old before new after) (λ e. BreaksOff (Grants o) (RefusesRound o) e old before new after) r (λ h. law.exchanged old before new after h) (λ e h. law.broke_off e old before new after h) ok err
