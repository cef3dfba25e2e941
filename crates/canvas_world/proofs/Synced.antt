-- What was synced stands after every later event.
use Rattle.std.proofs.Common.{◌≡◌, ◌≤◌, refl, sym, ap, subst, ◌∙◌, List, [], ◌∷◌, take, arith}
use Rattle.std.specs.Prelude.{Result, Ok, Err, IfOk, OnErr}
use Rattle.canvas_model.specs.World.{World, Event, Answer, Step, Run, nothing, and_then}
use Rattle.canvas_model.specs.Good.{IsGood}
use Rattle.canvas_model.specs.Laws.{EachStepKeepsSynced, AfterEachStep, AfterEachRun}
use Rattle.canvas_model.proofs.Lists.{take-take}
use Rattle.canvas_world.specs.Synced.{KeepsSynced, KeepsAllSynced}
use Rattle.canvas_world.specs.Seen.{seen_answer}
use Rattle.canvas_world.specs.declared.event.Answer as coded
use Rattle.canvas_world.proofs.Growth.{step_grows}

-- after one event
pub step_keeps : EachStepKeepsSynced → (old : World) (event : Event) (answer : Answer) (new : World) → IsGood old → Step old event answer new → KeepsSynced old new
step_keeps same old event answer new good step = (same old event answer new good step, (step_grows old event answer new good.bounds.kept step).0)

-- after one event, or none where memory was refused, for the world as its contracts see it
pub played_keeps : {E : Type 0} → EachStepKeepsSynced → (r : Result coded.Answer E) (w old new : World) (event : Event) → w ≡ old → IsGood old → IfOk r (λ a. Step w event (seen_answer a) new) → OnErr r (new ≡ w) → KeepsSynced old new
played_keeps same (Ok a) w old new event is good step kept = subst (λ (u : World). KeepsSynced u new) is (step_keeps same w event (seen_answer a) new (subst IsGood (sym is) good) step)
played_keeps same (Err e) w old new event is good step kept =
    let back : new ≡ old = kept ∙ is in
    (ap (λ (u : World). take old.synced u.log) back, subst (λ (u : World). old.synced ≤ u.synced) (sym back) (omega arith))

-- and after all events of a run
both_keep : (events : List Event) (old mid new : World) → Run mid events new → KeepsSynced old mid → KeepsSynced mid new → KeepsSynced old new
both_keep events old mid new run first rest = (
  sym (take-take new.log mid.synced old.synced first.1) ∙ ap (take old.synced) rest.0 ∙ take-take mid.log mid.synced old.synced first.1 ∙ first.0,
  let a = first.1 in let b = rest.1 in omega arith,
)

pub run_keeps : EachStepKeepsSynced → AfterEachStep IsGood → (old : World) (events : List Event) (new : World) → Run old events new → IsGood old → KeepsSynced old new
run_keeps same keeps old [] new nothing good = (refl, omega arith)
run_keeps same keeps old (event ∷ events) new (and_then answer step rest) good =
    both_keep events old _ new rest (step_keeps same old event answer _ good step) (run_keeps same keeps _ events new rest (keeps old event answer _ good step))

-- whatever was synced in a run from the empty world
pub keeps_all : EachStepKeepsSynced → AfterEachStep IsGood → AfterEachRun IsGood → (w : World) → KeepsAllSynced w
keeps_all same keeps good w u before after first rest = run_keeps same keeps u after w rest (good before u first)
