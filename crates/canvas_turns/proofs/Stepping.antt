-- What a step does next.
use Rattle.std.proofs.Common.{◌≡◌, ℕ, Bool, true, false, true≢false, List, [], Option, ap, sym, ◌∙◌}
use Rattle.std.specs.Prelude.{IsTrue}
use mathlib.Core.Logic.{inl, inr}
use Rattle.canvas_model.specs.Messages.{Message}
use Rattle.websocket.specs.declared.protocol.config.Role.TheVariants as role
use Rattle.tungstenite.specs.Socket.{IsFresh, Socket}
use Rattle.canvas_turns.specs.Lines.{Inlet, IsNextReader, OpenLine}
use Rattle.canvas_turns.specs.Served.{IsAfterTurn, IsRest, IsStep, StepsOpen}
use Rattle.canvas_turns.specs.declared.serving.Next.{Next}
use Rattle.canvas_turns.specs.declared.serving.Next.TheVariants as next

-- what is done by a connection that has nothing to do may be done behind a turn
pub rest_after : (n : Next) → IsRest n → IsAfterTurn n
rest_after next.Goes rests = tt
rest_after next.Pings rests = tt
rest_after next.Rests rests = tt
rest_after next.Renews rests = absurd rests
rest_after (next.Leaves e) rests = absurd rests
rest_after (next.Ends e) rests = rests

-- the reader goes on by a new one, over the stream on which this one has paused
pub behind_pause : {I : Type 0} (reader : Socket (Inlet I)) (seen old new : Inlet I) (next : Socket (Inlet I)) (paused : Bool) → seen ≡ reader.stream → paused ≡ seen.reader.has_paused → paused ≡ true → old ≡ reader.stream
    → new.reader.stream ≡ old.reader.stream → new.reader.frames ≡ old.reader.frames → IsFresh next new role.Server → IsNextReader reader next
behind_pause {I = I} reader seen old new next paused sees says is same stream frames fresh =
    inr (record {
      has_paused = sym (says ∙ ap (λ (d : Inlet I). d.reader.has_paused) sees) ∙ is;
      stream = new;
      same = stream ∙ ap (λ (d : Inlet I). d.reader.stream) same;
      frames = frames ∙ ap (λ (d : Inlet I). d.reader.frames) same;
      fresh = fresh;
    })

-- a test that says so of no other turn
pub not_closed : {P : Type 0} (said : Bool) → (P → IsTrue said) → said ≡ false → P → ⊥
not_closed said tells is closed = true≢false (sym (tells closed) ∙ is)

module _ {A I O : Type 0} (Replies : A → List ℕ → List Message → A → Type 0) (Tells : A → List Message → A → Type 0) (GoesTo : A → ℕ → A → Type 0)
    (Whispers : List ℕ → Type 0) (remaining : I → Option (List ℕ)) (contents : O → Option (List ℕ)) where
  -- a step behind which nothing was told, and nothing waits in the writer
  pub step_after : (n : Next) (old : A) (before : OpenLine I O) (new : A) (after : OpenLine I O) → IsAfterTurn n → StepsOpen Replies Tells GoesTo Whispers remaining contents old before new after
      → after.writer.output ≡ [] → IsStep Replies Tells GoesTo Whispers remaining contents n old before new after
  step_after next.Goes old before new after is steps empty = steps
  step_after next.Pings old before new after is steps empty = steps
  step_after next.Rests old before new after is steps empty = steps
  step_after next.Renews old before new after is steps empty = (steps, empty)
  step_after (next.Leaves e) old before new after is steps empty = absurd is
  step_after (next.Ends e) old before new after is steps empty = inr (inl (after, steps, is))
