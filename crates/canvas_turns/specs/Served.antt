-- What a connection that is served step by step does, to its end.
use Rattle.std.specs.Prelude.{◌≡◌, ◌⊎◌, ℕ, zero, suc, Bool, List, [], Option, None, Some, length}
use Rattle.tungstenite.specs.Failure.{IsIo}
use Rattle.tungstenite.specs.Socket.{Flushed}
use Rattle.tungstenite.specs.declared.error.Error.{Error}
use Rattle.canvas_model.specs.Messages.{Message}
use Rattle.canvas_sockets.specs.Turned.{IsTurn, StopsInTurn}
use Rattle.canvas_sockets.specs.declared.turning.TurnEnd.{TurnEnd}
use Rattle.canvas_sockets.specs.declared.turning.TurnEnd.TheVariants as turn
use Rattle.net_outbox.specs.Outboxes.{contents_of, waiting_bytes}
use Rattle.canvas_turns.specs.Lines.{IsNextLine, OpenLine, end_of}
use Rattle.canvas_turns.specs.Told.{LeavesSome, MayTell, MayWhisper, Pings, StopsTelling, StopsWhispering}
use Rattle.canvas_turns.specs.declared.connection.Connection.{Connection}
use Rattle.canvas_turns.specs.declared.connection.Step.{Step}
use Rattle.canvas_turns.specs.declared.connection.Step.TheVariants as step
use Rattle.canvas_turns.specs.declared.serving.Next.{Next}
use Rattle.canvas_turns.specs.declared.serving.Next.TheVariants as next
use Rattle.canvas_turns.specs.declared.waits.LineEnd.{LineEnd}
use Rattle.canvas_turns.specs.declared.waits.LineEnd.TheVariants as end

-- how a connection may be ended that waits for its peer: that was silent, or took too little
abbrev pub IsEndOfWait : LineEnd → Type 0
IsEndOfWait e = (e ≡ end.Silent) ⊎ (e ≡ end.Slow)

-- what a connection does next that has nothing to do now
abbrev pub IsRest : Next → Type 0
IsRest next.Goes = Unit {0}
IsRest next.Pings = Unit {0}
IsRest next.Rests = Unit {0}
IsRest next.Renews = ⊥
IsRest (next.Leaves e) = ⊥
IsRest (next.Ends e) = IsEndOfWait e

-- what it does next behind a turn
abbrev pub IsAfterTurn : Next → Type 0
IsAfterTurn next.Goes = Unit {0}
IsAfterTurn next.Pings = Unit {0}
IsAfterTurn next.Rests = Unit {0}
IsAfterTurn next.Renews = Unit {0}
IsAfterTurn (next.Leaves e) = ⊥
IsAfterTurn (next.Ends e) = IsEndOfWait e

module _ {I O : Type 0} (contents : O → Option (List ℕ)) where
  -- a connection that ends so has let leave some of what waited, or is over
  abbrev pub EndSteps : LineEnd → Step I O → OpenLine I O → Type 0
  EndSteps e (step.Goes after) before = LeavesSome contents before after.line × (after.ending ≡ Some e)
  EndSteps e (step.Rests after) before = LeavesSome contents before after.line × (after.ending ≡ Some e)
  EndSteps e (step.Ends end) before = end ≡ e

module _ {A I O : Type 0} (Replies : A → List ℕ → List Message → A → Type 0) (Tells : A → List Message → A → Type 0) (GoesTo : A → ℕ → A → Type 0)
    (Whispers : List ℕ → Type 0) (remaining : I → Option (List ℕ)) (contents : O → Option (List ℕ)) where
  -- a turn: at most 64 messages, and none while 256 KiB wait
  abbrev pub TakesTurn : TurnEnd → A → OpenLine I O → A → OpenLine I O → Type 0
  TakesTurn = IsTurn Replies (λ d. remaining d.reader.stream) (contents_of contents) (λ o. length (waiting_bytes o)) 262144 64

  -- a turn that an error ended
  abbrev pub StopsTurn : Error → A → OpenLine I O → A → OpenLine I O → Type 0
  StopsTurn = StopsInTurn Replies (λ d. remaining d.reader.stream) (contents_of contents) (λ o. length (waiting_bytes o)) 262144 64

  -- a turn was taken, and then the peer took some of what was written
  abbrev pub Steps : TurnEnd → A → OpenLine I O → A → OpenLine I O → Type 0
  Steps t old before new after = (mid : OpenLine I O) × TakesTurn t old before new mid × LeavesSome contents mid after

  -- a step that no closing frame ended, behind which its client may be told what is published
  abbrev pub StepsAndTells : A → OpenLine I O → A → OpenLine I O → Type 0
  StepsAndTells old before new after =
      (t : TurnEnd) × (a : A) × (l : OpenLine I O) × ((t ≡ turn.Closed) → ⊥) × Steps t old before a l × ((has : Bool) × MayTell Tells GoesTo contents has a l new after)

  -- the same, behind which something may be whispered to it
  abbrev pub StepsOpen : A → OpenLine I O → A → OpenLine I O → Type 0
  StepsOpen old before new after = (mid : OpenLine I O) × StepsAndTells old before new mid × MayWhisper Whispers contents mid after

  -- such a step, behind which the same sockets go on, or new ones, or the peer is pinged
  abbrev pub StepsOn : A → OpenLine I O → A → OpenLine I O → Type 0
  StepsOn old before new after = (mid : OpenLine I O) × StepsOpen old before new mid × ((after ≡ mid) ⊎ IsNextLine mid after ⊎ Pings contents mid after)

  -- so many steps, one after the other; before each its handler may have served others, by which it stands so
  abbrev pub StepsTimes : (A → A → Type 0) → ℕ → A → OpenLine I O → A → OpenLine I O → Type 0
  StepsTimes Between zero old before new after = (new ≡ old) × (after ≡ before)
  StepsTimes Between (suc n) old before new after = (a b : A) × (l : OpenLine I O) × StepsTimes Between n old before a l × Between a b × StepsOn b l new after

  -- what waited didn't leave, since the stream failed
  abbrev pub StopsLeaving : Error → OpenLine I O → OpenLine I O → Type 0
  StopsLeaving e before after = Flushed (contents_of contents) before.writer after.writer × IsIo e

  -- a step that failed by this error: what was read wasn't answered whole, or what waited didn't leave, or what is published wasn't told, or
  -- something wasn't whispered, or the peer wasn't pinged
  abbrev pub StopsStep : Error → A → OpenLine I O → A → Type 0
  StopsStep e old before new =
      ((after : OpenLine I O) × StopsTurn e old before new after)
      ⊎ ((t : TurnEnd) × (mid after : OpenLine I O) × TakesTurn t old before new mid × StopsLeaving e mid after)
      ⊎ ((t : TurnEnd) × (a : A) × (l after : OpenLine I O) × Steps t old before a l × StopsTelling Tells GoesTo contents e a l new after)
      ⊎ ((l after : OpenLine I O) × StepsAndTells old before new l × StopsWhispering Whispers contents e l after)
      ⊎ ((after : OpenLine I O) × StepsOpen old before new after)

  -- the last step: a closing frame was read and answered; or the peer was waited for too long; or an error ended the step
  abbrev pub Ends : LineEnd → A → OpenLine I O → A → Type 0
  Ends e old before new =
      ((after : OpenLine I O) × Steps turn.Closed old before new after × (e ≡ end.Left))
      ⊎ ((after : OpenLine I O) × StepsOpen old before new after × IsEndOfWait e)
      ⊎ ((error : Error) × StopsStep error old before new × (e ≡ end_of error))

  -- what a step made, by what is done next: it goes on by the same sockets, or behind a ping, or by new sockets, where nothing
  -- waits in the writer; or that was the last
  abbrev pub IsStep : Next → A → OpenLine I O → A → OpenLine I O → Type 0
  IsStep next.Goes old before new after = StepsOpen old before new after
  IsStep next.Pings old before new after = StepsOpen old before new after
  IsStep next.Rests old before new after = StepsOpen old before new after
  IsStep next.Renews old before new after = StepsOpen old before new after × (after.writer.output ≡ [])
  IsStep (next.Leaves e) old before new after = Ends e old before new
  IsStep (next.Ends e) old before new after = Ends e old before new

  -- a connection that didn't end goes on behind a step; or that was its last, and only what waits leaves from then on
  abbrev pub GoesOn : Option LineEnd → A → OpenLine I O → A → OpenLine I O → Type 0
  GoesOn None old before new after = StepsOn old before new after
  GoesOn (Some e) old before new after = Ends e old before new

  -- what a connection did in a step, by how it ended before, if it did
  abbrev pub StepsBy : Option LineEnd → Step I O → A → OpenLine I O → A → Type 0
  StepsBy None (step.Goes after) old before new = GoesOn after.ending old before new after.line
  StepsBy None (step.Rests after) old before new = GoesOn after.ending old before new after.line
  StepsBy None (step.Ends e) old before new = Ends e old before new
  StepsBy (Some e) s old before new = (new ≡ old) × EndSteps contents e s before

  -- A STEP OF A CONNECTION, whomever its handler served before: it read, replied, told and let leave as a step does, or that was its last.
  abbrev pub ConnectionSteps : Step I O → A → Connection I O → A → Type 0
  ConnectionSteps s old before new = StepsBy before.ending s old before.line new
