-- Outcomes as JSON: arrays that begin with the word of what became of the request.
use Rattle.std.specs.Prelude.{◌⊎◌, ◌==◌, ℕ, List, Bool, Option, codes, if◌then◌else◌}
use mathlib.Core.Logic.{inl, inr}
use Rattle.serde_json.specs.Data.{string, array, Items, item}
use Rattle.canvas_model.specs.declared.ObjId.{ObjId}
use Rattle.canvas_model.specs.declared.Reason.{Reason}
use Rattle.canvas_model.specs.declared.Reason.TheVariants.{IsRoot, BadId, Gone, ParentGone, BadParent, Cycle, Crowded, TooDeep}
use Rattle.canvas_model.specs.Document.{Place}
use Rattle.canvas_model.specs.Verdict.{Outcome, Joined, Created, WasSet, Moved, Removed, Refused, number_of}
use Rattle.canvas_codec.specs.Codec.{Codec, Members, Worded}
use Rattle.canvas_codec.specs.Parts.{via, array_of, each, maybe, headed, choice, after, member, end}
use Rattle.canvas_forms.specs.Version.{Version}
use Rattle.canvas_forms.specs.Numbered.{numbered}
use Rattle.canvas_forms.specs.Ids.{client_form, id_form}
use Rattle.canvas_forms.specs.Places.{place_form}

-- the reason of this number
abbrev pub reason_of : ℕ → Reason
reason_of n = if n == 2 then BadId else (if n == 3 then Gone else (if n == 4 then ParentGone else (if n == 5 then BadParent else (if n == 6 then Cycle else (if n == 7 then Crowded else (if n == 8 then TooDeep else IsRoot))))))

-- a reason, as its number
abbrev pub reason_form : Version → Codec Reason
reason_form v = numbered 1 v.last_reason reason_of number_of

-- one member alone
abbrev pub alone : {X : Type 0} → Codec X → Members (X × Unit {0})
alone c = member c end

-- `reason,place` or `reason,null`
abbrev pub refused : Version → Members (Reason × (Option Place × Unit {0}))
refused v = member (reason_form v) (member (maybe place_form) end)

-- what stands in an outcome
abbrev pub OutcomeParts : Type 0
OutcomeParts = (ℕ × Unit {0}) ⊎ ((Place × Unit {0}) ⊎ (Unit {0} ⊎ ((Place × Unit {0}) ⊎ ((List ObjId × Unit {0}) ⊎ (Reason × (Option Place × Unit {0}))))))

-- `"joined",..`, `"created",..`, `"wasset"`, `"moved",..`, `"removed",..` or `"refused",..`
abbrev pub outcome_words : Version → Worded OutcomeParts
outcome_words v = choice (codes "joined") (alone client_form) (choice (codes "created") (alone place_form) (choice (codes "wasset") end (choice (codes "moved") (alone place_form) (choice (codes "removed") (alone (array_of (each id_form))) (after (codes "refused") (refused v))))))

-- the outcome of these parts
abbrev pub outcome_of : OutcomeParts → Outcome
outcome_of (inl p) = Joined p.0
outcome_of (inr (inl p)) = Created p.0
outcome_of (inr (inr (inl p))) = WasSet
outcome_of (inr (inr (inr (inl p)))) = Moved p.0
outcome_of (inr (inr (inr (inr (inl p))))) = Removed p.0
outcome_of (inr (inr (inr (inr (inr p))))) = Refused p.0 p.1.0

-- the parts of an outcome
abbrev pub parts_of : Outcome → OutcomeParts
parts_of (Joined client) = inl (client, tt)
parts_of (Created place) = inr (inl (place, tt))
parts_of WasSet = inr (inr (inl tt))
parts_of (Moved place) = inr (inr (inr (inl (place, tt))))
parts_of (Removed ids) = inr (inr (inr (inr (inl (ids, tt)))))
parts_of (Refused reason stands) = inr (inr (inr (inr (inr (reason, (stands, tt))))))

-- an outcome
abbrev pub outcome_form : Version → Codec Outcome
outcome_form v = via outcome_of parts_of (array_of (headed (outcome_words v)))

-- the outcome that an array is read as which begins with this word
abbrev pub outcome_after : Version → List ℕ → Items → Option (Outcome × Bool)
outcome_after v w ds = (outcome_form v).read (array (item (string w) ds))
