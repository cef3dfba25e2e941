-- What is found after a crash has the headline of what was seen before.
use Rattle.std.proofs.Common.{◌≡◌, ℕ, List, refl, ap, sym, ◌∙◌, subst, arith}
use Rattle.std.proofs.lemmas.List.{append-nil}
use Rattle.std.specs.Prelude.{Bool, Some}
use mathlib.Core.Logic.{inr}
use Rattle.canvas_model.specs.Change.{Change}
use Rattle.canvas_model.specs.Overlay.{over}
use Rattle.canvas_model.specs.State.{State, opening}
use Rattle.canvas_model.specs.Log.{Entry, IsLegal, at_version}
use Rattle.canvas_model.specs.Numbered.{nth}
use Rattle.canvas_model.specs.Client.{Client}
use Rattle.canvas_model.proofs.Lists.{nth-append}
use Rattle.canvas_shelf.specs.Disk.{Content}
use Rattle.canvas_journal.specs.Meaning.{Versioned}
use Rattle.canvas_board.specs.Marks.{Opening}
use Rattle.canvas_desk.specs.Crashes.{EachRunKeepsSeen}
use Rattle.canvas_threads.specs.Follows.{FollowsLog}
use Rattle.canvas_threads.specs.Histories.{log_of}
use Rattle.canvas_threads.specs.Exchanges.{HasHeadline, IsOnceInLog}
use Rattle.canvas_threads.specs.Laws.{EachAcknowledgedIsFound, NewRoomOpens}
use Rattle.canvas_threads.proofs.Histories.{Longer, follows_longer, records, same_at, seen_longer}
use Rattle.canvas_threads.proofs.Headlines.{headline, one_version}

module _ (log new : List Entry) (longer : Longer log new) (legal : IsLegal opening new) (c : ℕ) (edits : List Change) (client : Client) (f : FollowsLog log c edits client) where
  once_longer : (i : ℕ) → IsOnceInLog log c i client.version edits → IsOnceInLog new c i client.version edits
  once_longer i s =
      let here : nth new s.version ≡ Some s.entry = ap (λ (l : List Entry). nth l s.version) longer.is ∙ nth-append log longer.more s.version s.entry s.stands in
      record {
        version = s.version;
        entry = s.entry;
        within = s.within;
        stands = here;
        author = s.author;
        number = s.number;
        what = s.what;
        once = λ u other there mine number. one_version new legal c f.given s.version u s.entry other here there s.author mine (s.number ∙ sym number);
      }

  -- the headline of a log is that of every longer one
  pub headline_longer : HasHeadline log c edits client → HasHeadline new c edits client
  headline_longer h = record {
    shows = h.shows ∙ ap (λ (s : State). over s.doc client.waiting) (sym (same_at log longer.more client.version f.reached) ∙ ap (λ (l : List Entry). at_version l client.version) (sym longer.is));
    stands = λ i some low. once_longer i (h.stands i some low);
  }

-- a room that begins with nothing
pub new_room_opens : NewRoomOpens
new_room_opens = record { legal = record { fits = tt; short = omega arith }; state = refl; version = refl }

pub each_acknowledged_found : {K : Type 0} (o : Opening) (honest : K → Bool) (moment : K → ℕ) (left_since : K → ℕ → Content → Type 0) (finds : Content → Versioned → Type 0) (keeps : K → Versioned → List Entry → List Entry → Type 0)
    → EachRunKeepsSeen o honest moment left_since finds keeps → EachAcknowledgedIsFound o honest moment left_since finds keeps
each_acknowledged_found o honest moment left_since finds keeps kept start d calls seen left rest run pre since past opens c edits client f all =
    let found = kept start d calls seen left rest run pre since in
    let before = records o past opens seen f.legal in
    let after = records o past opens found.0 found.1.1 in
    let longer = seen_longer o past seen found.0 (inr found.1) in
    record {
      history = found.0;
      begins = found.1;
      found = found.2;
      headline = headline_longer (log_of past seen) (log_of past found.0) longer after.legal c edits client f.follows (headline (log_of past seen) before.legal c edits all client f.follows);
      opens = record { legal = after.legal; state = after.state; version = after.version };
      follows = record {
        legal = tt;
        follows = subst (λ (l : List Entry). FollowsLog l c edits client) (sym (append-nil (log_of past found.0))) (follows_longer (log_of past seen) (log_of past found.0) c edits client longer f.follows);
      };
    }
