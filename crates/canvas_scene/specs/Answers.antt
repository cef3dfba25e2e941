-- The lines that answer requests.
use Rattle.std.specs.Prelude.{ℕ, List, [], ◌∷◌, ◌++◌, codes, Option, None, Some}
use Rattle.std.specs.List.{flat_map}
use Rattle.std.specs.Fmt.{decimal}
use Rattle.canvas_model.specs.Document.{Place}
use Rattle.canvas_model.specs.Text.{id_text, place_text, reason_word}
use Rattle.canvas_model.specs.Verdict.{Outcome, Joined, Created, WasSet, Moved, Removed, Refused, number_of}

-- the place that a refusal carries
abbrev pub carried_text : Option Place → List ℕ
carried_text None = []
carried_text (Some place) = codes " stands " ++ place_text place

-- what became of the request
abbrev pub outcome_text : Outcome → List ℕ
outcome_text (Joined client) = codes "joined " ++ decimal client
outcome_text (Created place) = codes "created " ++ place_text place
outcome_text WasSet = codes "set"
outcome_text (Moved place) = codes "moved " ++ place_text place
outcome_text (Removed ids) = codes "removed" ++ flat_map (λ id. codes " " ++ id_text id) ids
outcome_text (Refused reason stands) = codes "refused " ++ decimal (number_of reason) ++ codes " " ++ reason_word reason ++ carried_text stands

-- the version after the request, and what became of it
abbrev pub outcome_line : ℕ → Outcome → List ℕ
outcome_line version outcome = decimal version ++ codes " " ++ outcome_text outcome ++ 10 ∷ []
