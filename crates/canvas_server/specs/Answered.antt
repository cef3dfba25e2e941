-- What a server answers requests.
use Rattle.std.specs.Prelude.{◌≡◌, ◌⊎◌, ◌+◌, ◌<◌, ◌||◌, ◌==◌, Bool, not, cond, Result, Ok, Err, nat_lt, nat_le}
use Rattle.canvas_model.specs.State.{State, joined, done, next}
use Rattle.canvas_model.specs.Log.{What, Join, Edit, Entry, Fits, last_version}
use Rattle.canvas_model.specs.Client.{Yields}
use Rattle.canvas_model.specs.Document.{Doc}
use Rattle.canvas_model.specs.Verdict.{Outcome}
use Rattle.canvas_judge.specs.Choice.{ChoosesMiddle}
use Rattle.canvas_server.specs.Asked.{Asked}
use Rattle.canvas_server.specs.Served.{Served, accepted}
use Rattle.canvas_server.specs.declared.taking.Looked.{Looked}
use Rattle.canvas_server.specs.declared.taking.Looked.TheVariants as looked
use Rattle.canvas_server.specs.declared.taking.Took.{Took}
use Rattle.canvas_server.specs.declared.taking.Took.TheVariants as took
use Rattle.canvas_server.specs.declared.taking.TakeError.{TakeError}
use Rattle.canvas_server.specs.declared.taking.TakeError.TheVariants as refusal

-- no version is left for an entry, or no id for a Join
abbrev pub has_no_room : Served → What → Bool
has_no_room s Join = (s.version == last_version) || (next s.state == 4294967295)
has_no_room s (Edit change) = s.version == last_version

-- an edit that gives an object a place gives it this server's choice of the free positions
abbrev pub IsChosen : Doc → What → Outcome → Type 0
IsChosen d Join outcome = Unit {0}
IsChosen d (Edit change) outcome = ChoosesMiddle d change outcome

-- the entry is this request's, may come next, and is this server's choice
abbrev pub IsNextFor : State → Asked → Entry → Type 0
IsNextFor s r e = (e.author ≡ r.author) × (e.seq ≡ r.seq) × (e.what ≡ r.what) × Fits s e × IsChosen s.doc e.what e.outcome

-- the answer is an entry of this request that may come next, with this server's choice of positions
abbrev pub IsNext : {A : Type 0} → State → Asked → Result (Looked A) TakeError → Type 0
IsNext s r (Ok (looked.Next e)) = IsNextFor s r e
IsNext s r _ = ⊥

-- what is answered a request that was asked as this: an edit is tested for its client, its number and room, in this order
abbrev pub LooksAs : {A : Type 0} → Served → Asked → What → Result (Looked A) TakeError → Type 0
LooksAs s r Join answer = cond (has_no_room s Join) (answer ≡ Err refusal.Full) (IsNext s.state r answer)
LooksAs s r (Edit change) answer =
    cond (not (joined s.state r.author)) (answer ≡ Err refusal.Stranger)
    (cond (nat_le r.seq (done s.state r.author)) (answer ≡ Ok (looked.Repeat (done s.state r.author)))
    (cond (nat_lt (done s.state r.author + 1) r.seq) (answer ≡ Ok (looked.Gap (done s.state r.author)))
    (cond (has_no_room s (Edit change)) (answer ≡ Err refusal.Full)
    (IsNext s.state r answer))))

-- what is answered a request, unless memory is refused
abbrev pub Looks : {A : Type 0} → Served → Asked → Result (Looked A) TakeError → Type 0
Looks s r (Err refusal.Memory) = Unit {0}
Looks s r answer = LooksAs s r r.what answer

-- the request's entry is taken, as this server chooses it, and the answer is its version
abbrev pub IsJudged : Served → Asked → Result Took TakeError → Served → Type 0
IsJudged s r answer new = (e : Entry) × IsNextFor s.state r e × Yields (Ok (took.Judged (s.version + 1))) (accepted s e) answer new

-- what is answered a request that was asked as this, and the server afterwards: the same tests in the same order
abbrev pub TakesAs : Served → Asked → What → Result Took TakeError → Served → Type 0
TakesAs s r Join answer new = cond (has_no_room s Join) (Yields (Err refusal.Full) s answer new) (IsJudged s r answer new)
TakesAs s r (Edit change) answer new =
    cond (not (joined s.state r.author)) (Yields (Err refusal.Stranger) s answer new)
    (cond (nat_le r.seq (done s.state r.author)) (Yields (Ok (took.Repeat (done s.state r.author))) s answer new)
    (cond (nat_lt (done s.state r.author + 1) r.seq) (Yields (Ok (took.Gap (done s.state r.author))) s answer new)
    (cond (has_no_room s (Edit change)) (Yields (Err refusal.Full) s answer new)
    (IsJudged s r answer new))))

-- what is answered a request, and the server afterwards, which is as before where memory is refused
abbrev pub Takes : Served → Asked → Result Took TakeError → Served → Type 0
Takes s r (Err refusal.Memory) new = new ≡ s
Takes s r answer new = TakesAs s r r.what answer new

-- what was found out of a request may be done: where it is an entry, that may come next, and a version is left for it
abbrev pub MayFollow : {A : Type 0} → Served → Looked A → Type 0
MayFollow s (looked.Next e) = Fits s.state e × (s.version < last_version)
MayFollow s _ = Unit {0}

-- the entry is taken, or memory was refused and nothing changed
abbrev pub Keeps : Served → Entry → Result Took TakeError → Served → Type 0
Keeps s e answer new = Yields (Ok (took.Judged (s.version + 1))) (accepted s e) answer new ⊎ Yields (Err refusal.Memory) s answer new

-- what was found was done: an entry is kept, and else nothing changes
abbrev pub Follows : {A : Type 0} → Served → Looked A → Result Took TakeError → Served → Type 0
Follows s (looked.Next e) answer new = Keeps s e answer new
Follows s (looked.Repeat done) answer new = Yields (Ok (took.Repeat done)) s answer new
Follows s (looked.Gap done) answer new = Yields (Ok (took.Gap done)) s answer new
