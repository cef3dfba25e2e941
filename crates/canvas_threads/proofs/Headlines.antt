-- What a client that follows a log shows, and where its acknowledged edits stand.
use Rattle.std.proofs.Common.{◌≡◌, ◌⊎◌, ℕ, zero, suc, ◌≤◌, ◌<◌, List, [], take, ap, sym, ◌∙◌, subst, arith}
use mathlib.Core.Logic.{inl, inr}
use native.Mathlib.Decide.{ℕ_discrete}
use Rattle.std.specs.Prelude.{Some}
use Rattle.canvas_model.specs.Change.{Change}
use Rattle.canvas_model.specs.Overlay.{over}
use Rattle.canvas_model.specs.State.{opening}
use Rattle.canvas_model.specs.Log.{Entry, IsLegal, at_version}
use Rattle.canvas_model.specs.Numbered.{nth}
use Rattle.canvas_model.specs.Client.{Client}
use Rattle.canvas_model.specs.Receive.{IsEdit}
use Rattle.canvas_model.proofs.Lists.{nth-take_inv}
use Rattle.canvas_model.proofs.Log.{done_opening, find_number, fits-take, number_once}
use Rattle.canvas_model.proofs.Tests.{one_less}
use Rattle.canvas_threads.specs.Follows.{AreFirstOf, FollowsLog}
use Rattle.canvas_threads.specs.Exchanges.{HasHeadline, IsOnceInLog}

module _ (log : List Entry) (legal : IsLegal opening log) (c : ℕ) (given : 0 < c) where
  -- two entries of the id with one number are one
  pub one_version : (v u : ℕ) (e f : Entry) → nth log v ≡ Some e → nth log u ≡ Some f → e.author ≡ c → f.author ≡ c → e.seq ≡ f.seq → u ≡ v
  one_version zero u e f here there mine too same = absurd (cc here)
  one_version (suc v) zero e f here there mine too same = absurd (cc there)
  one_version (suc v) (suc u) e f here there mine too same = by (ℕ_discrete u v)
    where
      either : (u < v) ⊎ (v < u) → ⊥
      either (inl less) = omega (arith, same, number_once opening log legal.fits c given u v f e there here too mine less)
      either (inr less) = omega (arith, same, number_once opening log legal.fits c given v u e f here there mine too less)

      by : Dec (u ≡ v) → suc u ≡ suc v
      by (yes is) = ap suc is
      by (no apart) = absurd (either (one_less u v apart))

  -- an edit that was acknowledged stands in the log once
  stands_once : (edits : List Change) (all : AreFirstOf c edits log) (client : Client) → FollowsLog log c edits client → (i : ℕ) → 0 < i → i ≤ client.acknowledged → IsOnceInLog log c i client.version edits
  stands_once edits all client f i some low =
      let none = done_opening c in
      let count = f.acknowledged in
      let r = find_number opening (take client.version log) (fits-take opening log client.version legal.fits) c i given (omega arith) (omega arith) in
      let here = nth-take_inv log client.version (suc r.place) r.entry r.stands in
      record {
        version = suc r.place;
        entry = r.entry;
        within = here.0;
        stands = here.1;
        author = r.mine;
        number = r.seq;
        what = subst (λ (j : ℕ). IsEdit r.entry.what (nth edits j)) r.seq (all (suc r.place) r.entry here.1 r.mine (omega (arith, r.seq, low, f.made)));
        once = λ u other there mine seq. one_version (suc r.place) u r.entry other here.1 there r.mine mine (r.seq ∙ sym seq);
      }

pub headline : (log : List Entry) → IsLegal opening log → (c : ℕ) (edits : List Change) → AreFirstOf c edits log → (client : Client) → FollowsLog log c edits client → HasHeadline log c edits client
headline log legal c edits all client f = record { shows = f.stands.shown; stands = stands_once log legal c f.given edits all client f }

-- two clients at one version of a log with nothing waiting show equal documents
pub agree : (log : List Entry) (b c : ℕ) (made others : List Change) (client other : Client) → FollowsLog log b made client → FollowsLog log c others other → client.version ≡ other.version → client.waiting ≡ [] → other.waiting ≡ [] → client.view ≡ other.view
agree log b c made others client other f g at none no_more =
    f.stands.shown ∙ (λ i. over (at_version log (at i)).doc (none i)) ∙ sym (g.stands.shown ∙ ap (over (at_version log other.version).doc) no_more)
