-- Runs put together.
use Rattle.std.proofs.Common.{◌≡◌, ℕ, zero, suc, ◌+◌, ◌<◌, sym, ap, subst, ◌∙◌, List, [], ◌∷◌, ◌++◌, length, take, get_or, arith}
use Rattle.canvas_model.specs.Laws.{AfterEachRun}
use Rattle.canvas_model.specs.World.{World, Event, Answer, Step, Run, empty, nothing, and_then}

-- one event more
pub run_push : {w u v : World} {events : List Event} (event : Event) → Run w events u → (answer : Answer) → Step u event answer v → Run w (events ++ event ∷ []) v
run_push event nothing answer step = and_then answer step nothing
run_push event (and_then a s rest) answer step = and_then a s (run_push event rest answer step)

-- one run after another
pub run_append : {w u v : World} {before after : List Event} → Run w before u → Run u after v → Run w (before ++ after) v
run_append nothing rest = rest
run_append (and_then a s first) rest = and_then a s (run_append first rest)

take_more : (xs : List Event) (i : ℕ) (x : Event) → i < length xs → x ≡ get_or xs i x → take (i + 1) xs ≡ take i xs ++ x ∷ []
take_more [] i x lt is = absurd (omega arith)
take_more (y ∷ xs) zero x lt is = ap (λ z. z ∷ []) (sym is)
take_more (y ∷ xs) (suc i) x lt is =
    let e : suc i + 1 ≡ suc (i + 1) = omega arith in
    ap (λ n. take n (y ∷ xs)) e ∙ ap (λ zs. y ∷ zs) (take_more xs i x (omega arith) is)

-- one event more of a list was played
pub run_more : (w u v : World) (events : List Event) (i : ℕ) (event : Event) (answer : Answer) → Run w (take i events) u → i < length events → event ≡ get_or events i event → Step u event answer v → Run w (take (i + 1) events) v
run_more w u v events i event answer run lt is step = subst (λ es. Run w es v) (sym (take_more events i event lt is)) (run_push event run answer step)

-- a run that was stopped: so many events were played, and the world is as before the next
pub run_stopped : (w u v : World) (events : List Event) (i n : ℕ) → Run w (take i events) u → n ≡ i → v ≡ u → Run w (take n events) v
run_stopped w u v events i n run count same = subst (λ (x : World). Run w (take n events) x) (sym same) (subst (λ (k : ℕ). Run w (take k events) u) (sym count) run)

-- what holds after every run from the empty world
pub ran : (P : World → Type 0) → AfterEachRun P → (w u : World) (events : List Event) → w ≡ empty → Run w events u → P u
ran P law w u events is run = law events u (subst (λ (w : World). Run w events u) is run)
