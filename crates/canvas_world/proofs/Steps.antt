-- Steps as the contracts of calls tell them.
use Rattle.std.proofs.Common.{◌≡◌, sym, subst}
use Rattle.std.specs.Prelude.{Option, Result, Ok, Err, IfOk}
use Rattle.canvas_model.specs.World.{World, Letter, Event, Step}
use Rattle.canvas_world.specs.declared.event.Answer as coded
use Rattle.canvas_world.specs.Parts.{IsPost}
use Rattle.canvas_world.specs.Seen.{seen_answer}

-- what an event was answered, by the event that it is
pub played : {E : Type 0} (r : Result coded.Answer E) (old new : World) (event wanted : Event) → event ≡ wanted → IfOk r (λ a. Step old wanted (seen_answer a) new) → IfOk r (λ a. Step old event (seen_answer a) new)
played r old new event wanted is h = subst (λ (e : Event). IfOk r (λ a. Step old e (seen_answer a) new)) (sym is) h

-- what was sent, where the event sends just that
pub sent : {E : Type 0} (r : Result coded.Answer E) (old new : World) (event : Event) (letter : Option Letter) → IsPost old event letter → IfOk r (λ a. (event : Event) → IsPost old event letter → Step old event (seen_answer a) new) → IfOk r (λ a. Step old event (seen_answer a) new)
sent (Ok a) old new event letter post h = h event post
sent (Err e) old new event letter post h = tt
