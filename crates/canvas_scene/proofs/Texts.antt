-- What a log prints.
use Rattle.std.proofs.Common.{◌≡◌, inl, ℕ, List, ◌++◌, length, refl, sym, subst, ◌∙◌, Result, Ok, Err, IfErr}
use Rattle.std.proofs.lemmas.List.{append_assoc}
use Rattle.std.specs.Prelude.{IsErrAnd}
use Rattle.canvas_lines.specs.Spelling.{IsBadLine}
use Rattle.canvas_model.specs.Log.{Entry}
use Rattle.canvas_model.specs.State.{State}
use Rattle.canvas_script.specs.declared.run.ScriptError.{ScriptError}
use Rattle.canvas_script.specs.declared.run.ScriptError.TheVariants.{BadLine, Memory}
use Rattle.canvas_script.specs.Reading.{IsWorld}
use Rattle.canvas_scene.specs.Report.{version_line, object_lines}
use Rattle.canvas_scene.specs.Results.{IsErrorInLog, LeavesAnswered, IsLogOf, IsReportOfLog, IsTextLeft, IsTextPlayed}
use Rattle.canvas_scene.specs.Runs.{IsFold}

-- a log was played
pub log_played : (text before after : List ℕ) (log : List Entry) (s : State) → IsLogOf text log → IsFold log s → ((n : ℕ) → IsBadLine text n → ⊥) → IsReportOfLog text log s before after → IsTextPlayed text before after
log_played text before after log s of folds none report = (
  report.answers ++ version_line (length log) ++ object_lines s.doc,
  inl (record {
    log = log;
    state = s;
    answers = report.answers;
    is_log = of;
    is_fold = folds;
    no_bad_line = none;
    are_answers = report.are_answers;
    is = refl;
  }),
  report.added ∙ simp append_assoc refl,
)

-- a log was left
pub log_left : (text before after : List ℕ) (e : ScriptError) → (IsWorld text → ⊥) → IsErrorInLog text e → LeavesAnswered text before after e → IsTextLeft text before after e
log_left text before after (BadLine n) not bad (printed, prints, added) = (printed, inl (not, bad, prints), added)
log_left text before after Memory not bad same = same

-- the error that is passed on
pub passed_on : {T : Type 0} (P : ScriptError → Type 0) (r : Result T ScriptError) (e : ScriptError) → IsErrAnd r (λ f. f ≡ e) → P e → IfErr r P
passed_on P (Ok x) e is p = tt
passed_on P (Err f) e is p = subst P (sym is) p
