use Rattle.std.proofs.Common.{◌≡◌, ◌≤◌, ◌<◌, ◌^◌, true, subst}
use Rattle.canvas_model.specs.Log.{Entry, last_version}
use Rattle.canvas_judge.specs.Seen.{seen_what, seen_outcome}
use Rattle.canvas_forms.specs.Version.{version_two}
use Rattle.canvas_forms.specs.Ids.{client_form}
use Rattle.canvas_forms.specs.Outcomes.{outcome_form}
use Rattle.canvas_forms.specs.Entries.{what_form}
use Rattle.canvas_forms.specs.EntryTexts.{IsEntryInRange}
use Rattle.canvas_wire.proofs.Ranges.{entry_fits}
use Rattle.canvas_wire.proofs.sound.sound_entry.Goals as goal

pub returns-clause-author : goal.returns-clause-author
returns-clause-author g c = subst (λ (e : Entry). client_form.fits e.author ≡ true) c.entry.view_is c.know_client.ensures

pub returns-clause-seq : goal.returns-clause-seq
returns-clause-seq g c = subst (λ (e : Entry). e.seq < 2 ^ 64) c.entry.view_is c.know_seq.ensures

pub returns-clause-what : goal.returns-clause-what
returns-clause-what g c = subst (λ (e : Entry). what_form.fits e.what ≡ true) c.entry.view_is c.sound_what.ensures.in_range

pub returns-clause-outcome : goal.returns-clause-outcome
returns-clause-outcome g c = subst (λ (e : Entry). (outcome_form version_two).fits e.outcome ≡ true) c.entry.view_is c.sound_outcome.ensures.in_range

pub returns-clause-in_range : goal.returns-clause-in_range
returns-clause-in_range g c =
    subst (λ (e : Entry). e.seq ≤ last_version → IsEntryInRange e) c.entry.view_is (entry_fits (record { author = c.entry.inside.author; seq = c.entry.inside.seq; what = seen_what c.entry.inside.what; outcome = seen_outcome c.entry.inside.outcome }) c.know_client.ensures c.sound_what.ensures.in_range c.sound_outcome.ensures.in_range)
