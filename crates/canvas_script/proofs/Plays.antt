-- What items print, put together, and the run that it is.
use Rattle.std.proofs.Common.{◌≡◌, ℕ, ◌+◌, ◌<◌, List, [], ◌∷◌, ◌++◌, length, take, map, get_or, sym, ap, subst, ◌∙◌, append_assoc, append-nil}
use Rattle.std.proofs.lemmas.List.{map_more}
use Rattle.canvas_model.specs.World.{World, Run, nothing, empty}
use Rattle.canvas_model.specs.World as world
use Rattle.canvas_script.specs.Script.{Item, Enters, Happens, ShowsServer, ShowsNode}
use Rattle.canvas_script.specs.Plays.{Plays, Prints, no_more, and_then, AddsItem, AddsItems, events_of}
use Rattle.canvas_script.specs.Reading.{InputSays}
use Rattle.canvas_script.specs.Report.{AddsReport}
use Rattle.canvas_script.specs.Results.{IsWorldReport}

-- one item more
prints_push : {names : List (List ℕ)} {w u v : World} {items : List Item} (text : List ℕ) (item : Item) (line : List ℕ) → Prints names w items text u → Plays names u item line v
    → Prints names w (items ++ item ∷ []) (text ++ line) v
prints_push {names} {w} {u} {v} _ item line no_more last = subst (λ text. Prints names w (item ∷ []) text v) (append-nil line) (and_then line [] last no_more)
prints_push {names} {w} {u} {v} _ item line (and_then {item = first} {items = items} told text plays rest) last =
    subst (λ text. Prints names w (first ∷ (items ++ item ∷ [])) text v) (sym (append_assoc told text line)) (and_then told (text ++ line) plays (prints_push text item line rest last))

-- no item yet
pub none_printed : (names : List (List ℕ)) (w : World) (text : List ℕ) → AddsItems names w [] text w text
none_printed names w text = ([], no_more, sym (append-nil text))

-- the next item of a list
pub next_printed : {A : Type 0} (seen : A → Item) (names : List (List ℕ)) (w u v : World) (items : List A) (i : ℕ) (item : A) (before middle after : List ℕ)
    → AddsItems names w (map seen (take i items)) before u middle → i < length items → item ≡ get_or items i item → AddsItem names u (seen item) middle v after
    → AddsItems names w (map seen (take (i + 1) items)) before v after
next_printed seen names w u v items i item before middle after (text, prints, is) lt at (line, plays, adds) =
    subst (λ xs. AddsItems names w xs before v after) (sym (map_more seen items i item lt ∙ ap (λ x. map seen (take i items) ++ seen x ∷ []) (sym at)))
    (text ++ line, prints_push text (seen item) line prints plays, adds ∙ ap (λ t. t ++ line) is ∙ append_assoc before text line)

-- what items print is a run of their events
pub printed_run : {names : List (List ℕ)} {w u : World} {items : List Item} {text : List ℕ} → Prints names w items text u → Run w (events_of items) u
printed_run no_more = nothing
printed_run (and_then {item = Enters} line text (answer, step, is) rest) = world.and_then answer step (printed_run rest)
printed_run (and_then {item = Happens event} line text (answer, step, is) rest) = world.and_then answer step (printed_run rest)
printed_run (and_then {v = v} {item = ShowsServer} {items = items} line text (shows, same) rest) = subst (λ (w : World). Run w (events_of items) v) same (printed_run rest)
printed_run (and_then {v = v} {item = ShowsNode k} {items = items} line text (shows, same) rest) = subst (λ (w : World). Run w (events_of items) v) same (printed_run rest)

pub added_run : (names : List (List ℕ)) (w u : World) (items : List Item) (before after : List ℕ) → AddsItems names w items before u after → Run w (events_of items) u
added_run names w u items before after (text, prints, is) = printed_run prints

-- what a whole script prints, and its report
pub reported : (input : List ℕ) (names : List (List ℕ)) (items : List Item) (w : World) (start told text before after : List ℕ) → InputSays input names items → length names ≡ length w.nodes
    → AddsItems names empty items start w told → start ≡ [] → AddsReport names w told text → after ≡ before ++ text → IsWorldReport input w before after
reported input names items w start told text before after says named (answers, prints, told_is) none (report, reports, text_is) is = (
  text,
  record {
    names = names;
    items = items;
    answers = answers;
    report = report;
    says = says;
    prints = prints;
    reports = reports;
    named = named;
    is = text_is ∙ ap (λ t. t ++ report) (told_is ∙ ap (λ t. t ++ answers) none);
  },
  is,
)
