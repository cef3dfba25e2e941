-- What the parts of a step leave to be done.
use Rattle.std.specs.Prelude.{◌≡◌, ◌⊎◌, ℕ, ◌+◌, ◌<◌, [], ◌∷◌, ◌++◌, length, Option, Some, None, Result, Ok, Err}
use Rattle.canvas_model.specs.Change.{Change}
use Rattle.canvas_model.specs.Log.{What, Join, Edit, Fits, last_version}
use Rattle.canvas_model.specs.Client.{last_number}
use Rattle.canvas_model.specs.Local as local
use Rattle.canvas_server.specs.Asked.{Asked}
use Rattle.canvas_model.specs.World.{Letter, Node, World, Event, Answer, Nothing, MessageIs, EditIs, RefusedEdit, Judged, Take, state, posted, appended, Step}
use Rattle.canvas_world.specs.Seen.{seen_answer}
use Rattle.canvas_server.specs.declared.taking.Looked.{Looked}
use Rattle.canvas_server.specs.declared.taking.Looked.TheVariants as looked
use Rattle.canvas_server.specs.declared.taking.TakeError.{TakeError}
use Rattle.canvas_server.specs.declared.taking.TakeError.TheVariants as refusal
use Rattle.canvas_world.specs.declared.event.Answer.TheVariants as answer
use Rattle.canvas_world.specs.declared.changing.Judging.{Judging}
use Rattle.canvas_world.specs.declared.changing.Judging.TheVariants as judging

-- who asked for this: the node that sent it, if it is a Join, else 0
abbrev pub asker_as : What → ℕ → ℕ
asker_as Join from = from
asker_as (Edit change) from = 0

-- who asked for the request
abbrev pub asker_of : Asked → ℕ → ℕ
asker_of r from = asker_as r.what from

-- the event sends this message, or can't happen
abbrev pub IsPost : World → Event → Option Letter → Type 0
IsPost w event None = Step w event Nothing w
IsPost w event (Some letter) = Step w event (MessageIs (length w.letters + 1)) (posted w letter)

-- taking message m appends this entry, or answers this and changes nothing
abbrev pub IsJudging : {A : Type 0} → World → ℕ → Judging A → Type 0
IsJudging w m (judging.Append e asker) = Fits (state w) e × (length w.log < last_version) × Step w (Take m) (Judged (length w.log + 1)) (appended w e asker)
IsJudging w m (judging.Answer answer) = Step w (Take m) (seen_answer answer) w

-- what the world makes of what the server answers; with an entry goes the node that asked for it, if it is a Join
abbrev pub BecomesJudging : {A : Type 0} → ℕ → Result (Looked A) TakeError → Judging A → Type 0
BecomesJudging asker (Ok (looked.Next e)) j = j ≡ judging.Append e asker
BecomesJudging asker (Ok (looked.Repeat d)) j = j ≡ judging.Answer answer.Repeat
BecomesJudging asker (Ok (looked.Gap d)) j = j ≡ judging.Answer answer.Gap
BecomesJudging asker (Err refusal.Stranger) j = j ≡ judging.Answer answer.Stranger
BecomesJudging asker (Err refusal.Full) j = j ≡ judging.Answer answer.FullServer
BecomesJudging asker (Err refusal.Memory) j = ⊥

-- a node makes an edit, or refuses it
abbrev pub NodeEdits : Node → local.EditRequest → Answer → Node → Type 0
NodeEdits old request answer new =
    ((error : local.EditError) × local.Refuses old.client request error × (answer ≡ RefusedEdit error) × (new ≡ old))
    ⊎ ((change : Change) × local.Makes old.client request change × (answer ≡ EditIs (last_number old.client + 1))
    × (new ≡ record { client = local.edited old.client change; edits = old.edits ++ change ∷ [] }))
